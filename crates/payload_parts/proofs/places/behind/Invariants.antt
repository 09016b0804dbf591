use Rattle.std.proofs.Common.{◌≡◌, length}
use Rattle.state_model.specs.Follows.{is_kept}
use Rattle.payload_parts.specs.Places.{AreAmong}
use Rattle.payload_parts.proofs.places.behind.Given as goal

abbrev pub invariant-loop-new : goal.invariant-loop-new
invariant-loop-new l = record {
  same : is_kept l.old l.rest ≡ is_kept l.old l.places;
  among : AreAmong l.rest l.places;
}

abbrev pub decreases-loop-new : goal.decreases-loop-new
decreases-loop-new l = length l.rest
