use Rattle.std.proofs.Common.{◌≡◌, ◌+◌, length}
use Rattle.cdc_histories.specs.Building.{span}
use Rattle.cdc_histories.proofs.cutting.span.Given as goal

abbrev pub invariant-loop-event : goal.invariant-loop-event
invariant-loop-event l = (l.count + span l.key l.left ≡ span l.key l.events) × (l.count + length l.left ≡ length l.events)

abbrev pub decreases-loop-event : goal.decreases-loop-event
decreases-loop-event l = length l.left
