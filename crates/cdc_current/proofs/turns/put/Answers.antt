use Rattle.std.proofs.Common.{ap, ◌∙◌}
use Rattle.std.specs.BTreeMap.{insert_entry}
use Rattle.value_core.specs.Order.{row_order}
use Rattle.cdc_current.proofs.TurnLemmas.{balance_key}
use Rattle.cdc_current.proofs.turns.put.Goals as goal

pub returns-clause-balance : goal.returns-clause-balance
returns-clause-balance c =
    balance_key c.args.truncated.now c.args.key.now c.args.state c.args.keys.now.entries c.insert.new.self.entries c.in_ok-before.before c.in_ok-after.after c.in_ok-removed.removed c.in_ok-added.added
    c.in_ok-insert.ensures.was_ordered (c.in_ok-insert.ensures.entries ∙ ap (λ k. insert_entry row_order c.args.keys.now.entries k c.args.state) c.in_ok-key.ensures)
    c.in_ok-before.ensures c.in_ok-after.ensures c.in_ok-removed.ensures c.in_ok-added.ensures
