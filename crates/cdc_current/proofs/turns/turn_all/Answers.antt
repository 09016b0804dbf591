use Rattle.std.proofs.Common.{◌++◌, ap, ◌∙◌, subst}
use Rattle.cdc_current.specs.Keeping.{keeping}
use Rattle.cdc_current.proofs.TurnLemmas.{Turning, turns_more}
use Rattle.cdc_current.proofs.turns.turn_all.Goals as goal

pub loop-event-preserved : goal.loop-event-preserved
loop-event-preserved c =
    turns_more (keeping c.args.ignore_null c.args.truncated.now c.args.keys.now.entries) c.args.ignore_null c.loop-event.truncated c.turn.new.truncated c.loop-event.keys.entries c.turn.new.keys.entries
    c.args.events.now c.in-Some.more.now c.in-Some.event.now c.loop-event.removed.items c.append.new.self.items c.loop-event.added.items c.append-in-Some.new.self.items
    c.in_ok-change.change.removed c.in_ok-change.change.added
    (subst (λ ys. Turning (keeping c.args.ignore_null c.args.truncated.now c.args.keys.now.entries) (keeping c.args.ignore_null c.loop-event.truncated c.loop-event.keys.entries) c.args.events.now ys c.loop-event.removed.items c.loop-event.added.items)
    c.in-Some.ensures.cases.0 c.loop-event.invariant)
    c.in_ok-change.ensures.takes c.in_ok-change.ensures.balance
    (c.in_ok-append.ensures.items ∙ ap (λ ys. c.loop-event.removed.items ++ ys) c.into_vec.ensures)
    (c.in_ok-append-2.ensures.items ∙ ap (λ ys. c.loop-event.added.items ++ ys) c.into_vec-in-Some.ensures)
