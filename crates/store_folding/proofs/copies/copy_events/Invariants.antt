use Rattle.std.proofs.Common.{◌≡◌, take}
use Rattle.store_folding.proofs.copies.copy_events.Given as goal

abbrev pub invariant-loop-event : goal.invariant-loop-event
invariant-loop-event l = l.copies ≡ take l.event-index l.events
