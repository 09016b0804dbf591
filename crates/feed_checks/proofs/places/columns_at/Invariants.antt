use Rattle.std.proofs.Common.{◌≡◌, take}
use Rattle.feed_checks.specs.Places.{columns_at}
use Rattle.feed_checks.proofs.places.columns_at.Given as goal

-- the columns at the places so far
abbrev pub invariant-loop-place : goal.invariant-loop-place
invariant-loop-place l = l.found ≡ columns_at l.columns (take l.place-index l.places)
