use Rattle.std.proofs.Common.{◌≡◌, ◌++◌, drop}
use Rattle.feed_checks.specs.Places.{others_from}
use Rattle.feed_checks.proofs.places.others.Given as goal

-- the places so far and those that are left are all
abbrev pub invariant-loop-place : goal.invariant-loop-place
invariant-loop-place l = l.places ++ others_from l.names l.place (drop l.place l.columns) ≡ others_from l.names 0 l.columns
