use Rattle.std.proofs.Common.{◌≡◌, ◌<◌, ◌++◌, length, drop}
use Rattle.std.specs.List.{All}
use Rattle.update_plan.specs.Payloads.{places_of}
use Rattle.update_plan.proofs.resets.places_of.Given as goal

-- the places so far and those of the names that are left are all
abbrev pub invariant-loop-name : goal.invariant-loop-name
invariant-loop-name l = record {
  places : l.places.items ++ places_of l.plan (drop l.name-index l.names) ≡ places_of l.plan l.names;
  below : All (λ place. place < length l.plan) l.places.items;
}
