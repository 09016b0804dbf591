use Rattle.std.proofs.Common.{◌≡◌, drop}
use Rattle.state_model.specs.Follows.{none_falls}
use Rattle.payload_parts.specs.Places.{AreAmong}
use Rattle.payload_parts.proofs.places.none_falls.Given as goal

abbrev pub invariant-loop-place : goal.invariant-loop-place
invariant-loop-place l = record {
  same : none_falls (drop l.place-index l.old) l.new ≡ none_falls l.old l.new;
  among : AreAmong l.rest l.new;
}
