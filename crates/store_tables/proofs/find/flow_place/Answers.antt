use Rattle.std.proofs.Common.{◌≡◌, true, false, sym, ◌∙◌}
use Rattle.state_model.specs.Dataset.{is_flow}
use Rattle.store_tables.proofs.FirstLemmas.{seeks-here, seeks-next}
use Rattle.store_tables.proofs.find.flow_place.Goals as goal

pub returns-then-is_same-clause-first : goal.returns-then-is_same-clause-first
returns-then-is_same-clause-first c =
    let passes : is_flow c.args.name.now c.index-flows-i.result ≡ true = sym c.is_same.ensures ∙ c.if-is_same.true in
    seeks-here (is_flow c.args.name.now) c.args.flows.now c.loop-i.i c.index-flows-i.result c.loop-i-test.true c.index-flows-i.is passes c.loop-i.invariant

pub loop-i-preserved : goal.loop-i-preserved
loop-i-preserved c =
    let fails : is_flow c.args.name.now c.index-flows-i.result ≡ false = sym c.is_same.ensures ∙ c.if-is_same.false in
    seeks-next (is_flow c.args.name.now) c.args.flows.now c.loop-i.i c.index-flows-i.result c.loop-i-test.true c.index-flows-i.is fails c.loop-i.invariant
