use Rattle.std.proofs.Common.{drop}
use Rattle.state_model.specs.Saved.{read_back}
use Rattle.payload_parts.proofs.WalkLemmas.{all_fitted, may_be, never, none_left_to_fit, not_distinct}
use Rattle.payload_parts.proofs.base.is_store.Goals as goal

pub returns-then-not-are_distinct : goal.returns-then-not-are_distinct
returns-then-not-are_distinct c =
    never (not_distinct c.args.store.now c.are_distinct.result c.as_slice.result.now c.requires c.are_distinct.ensures c.as_slice.ensures c.if-not-are_distinct.true)

pub returns-in_default : goal.returns-in_default
returns-in_default c =
    may_be c.args.store.now c.are_distinct.result c.as_slice.result.now c.requires c.are_distinct.ensures c.as_slice.ensures c.if-not-are_distinct.false
    (c.loop-definition.invariant.0 (none_left_to_fit (read_back c.args.store.now) (drop c.loop-definition.definition-index c.args.store.now.list) c.loop-definition.states.now c.in_default.ensures.cases))

pub returns : goal.returns
returns c =
    may_be c.args.store.now c.are_distinct.result c.as_slice.result.now c.requires c.are_distinct.ensures c.as_slice.ensures c.if-not-are_distinct.false
    (c.loop-definition.invariant.0 (all_fitted (read_back c.args.store.now) c.args.store.now.list c.loop-definition.definition-index c.loop-definition.states.now
    (rw c.as_slice-definition-items.ensures at c.loop-definition-test.false)))
