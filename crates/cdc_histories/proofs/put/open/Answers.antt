use Rattle.std.proofs.Common.{◌≡◌, None, sym, ◌∙◌, subst}
use Rattle.std.specs.Map.{lookup}
use Rattle.std.specs.BTreeMap.{is_at}
use Rattle.value_core.specs.Order.{row_order}
use Rattle.event_ledger.proofs.Keys.{absent, events_insert}
use Rattle.cdc_histories.proofs.TurnLemmas.{parts_insert}
use Rattle.cdc_histories.proofs.put.open.Goals as goal

pub returns-clause-in_parts : goal.returns-clause-in_parts
returns-clause-in_parts c = rw (c.in_ok-insert.ensures.entries, c.new.ensures) (parts_insert c.args.ignore_null c.in_ok-key.key c.args.histories.now.entries c.requires)

pub returns-clause-same : goal.returns-clause-same
returns-clause-same c =
    let free = subst (λ k. lookup (is_at (row_order k)) c.args.histories.now.entries ≡ None) (sym c.in_ok-key.ensures) (absent _ (sym c.contains_key.ensures ∙ c.if-contains_key.false)) in
    rw (c.in_ok-insert.ensures.entries, c.new.ensures) (events_insert c.in_ok-key.key c.args.histories.now.entries free)
