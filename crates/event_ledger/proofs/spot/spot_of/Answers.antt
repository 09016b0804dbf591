use Rattle.std.proofs.Common.{sym, ap, ◌∙◌}
use Rattle.event_ledger.specs.Spots.{IsBeside}
use Rattle.event_ledger.proofs.Places.{carries, standing_beside, standing_free}
use Rattle.event_ledger.proofs.spot.spot_of.Goals as goal

pub returns-in-Between-clause-standing : goal.returns-in-Between-clause-standing
returns-in-Between-clause-standing g c = sym (standing_free c.args.history.now c.args.event.now c.in-Between.i c.in-Between.ensures.place.1 c.in-Between.ensures.place.2)

pub returns-in-At-clause-standing : goal.returns-in-At-clause-standing
returns-in-At-clause-standing g c =
    carries c.beside.result (IsBeside c.look-kept.result.now.event c.args.event.now) _
    (λ spot beside. standing_beside c.args.history.now c.args.event.now c.in-At.i c.look-kept.result.now spot c.len-count.ensures.order c.requires c.in-At.ensures.place.0 c.look-kept.ensures.entry
    (ap (λ entry. entry.event.sequence) c.look-kept.ensures.entry ∙ c.in-At.ensures.place.1 c.look-kept.result.now) beside) c.beside.ensures
