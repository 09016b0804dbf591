use Rattle.std.proofs.Common.{◌≡◌, take}
use Rattle.cdc_histories.proofs.cutting.copies.Given as goal

abbrev pub invariant-loop-event : goal.invariant-loop-event
invariant-loop-event l = l.copy ≡ take l.event-index l.events
