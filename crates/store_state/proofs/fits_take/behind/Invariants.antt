use Rattle.std.proofs.Common.{◌≡◌, length}
use Rattle.store_state.specs.Follows.{is_kept}
use Rattle.store_state.specs.Places.{AreAmong}
use Rattle.store_state.proofs.fits_take.behind.Given as goal

abbrev pub invariant-loop-new : goal.invariant-loop-new
invariant-loop-new l = record {
  same : is_kept l.old l.rest ≡ is_kept l.old l.places;
  among : AreAmong l.rest l.places;
}

abbrev pub decreases-loop-new : goal.decreases-loop-new
decreases-loop-new l = length l.rest
