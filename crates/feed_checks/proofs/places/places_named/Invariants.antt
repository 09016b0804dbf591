use Rattle.std.proofs.Common.{◌≡◌, take}
use Rattle.feed_checks.specs.Places.{places_named}
use Rattle.feed_checks.proofs.places.places_named.Given as goal

-- the places of the names so far
abbrev pub invariant-loop-name : goal.invariant-loop-name
invariant-loop-name l = l.places ≡ places_named l.columns (take l.name-index l.names)
