use Rattle.std.proofs.Common.{◌++◌, List, ◌∙◌, subst}
use Rattle.value_core.specs.declared.event.Event.{Event}
use Rattle.value_core.specs.Bags.{net_change}
use Rattle.cdc_current.specs.Keeping.{Keeps, keeping}
use Rattle.cdc_current.proofs.TurnLemmas.{net_seen}
use Rattle.cdc_current.proofs.current.Current.apply.Goals as goal

pub returns-clause-change : goal.returns-clause-change
returns-clause-change c =
    net_seen c.current_rows_are_told_in_any_order.ensures c.args.self.now c.self.inside.ignore_null c.self.inside.truncated c.turn_all.new.truncated c.self.inside.keys.entries c.turn_all.new.keys.entries
    c.args.events.now c.turn_all.new.removed.items c.turn_all.new.added.items c.in_ok-change.change
    c.self.view_is c.len-before.ensures.ordered c.len-after.ensures.ordered c.in_ok-turn_all.ensures.balance
    (subst (λ events. (kept : List Event) → Keeps (keeping c.self.inside.ignore_null c.self.inside.truncated c.self.inside.keys.entries) kept → Keeps (keeping c.self.inside.ignore_null c.turn_all.new.truncated c.turn_all.new.keys.entries) (kept ++ events))
    c.as_slice.ensures c.in_ok-turn_all.ensures.kept)
    (c.in_ok-change.ensures ∙ (λ i. net_change (c.from_vec.ensures i) (c.from_vec-2.ensures i)))
