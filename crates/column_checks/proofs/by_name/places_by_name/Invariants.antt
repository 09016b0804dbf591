use Rattle.std.proofs.Common.{◌≡◌, take}
use Rattle.column_checks.specs.ByName.{places_by_name}
use Rattle.column_checks.proofs.by_name.places_by_name.Given as goal

-- the places of the columns so far
abbrev pub invariant-loop-wanted : goal.invariant-loop-wanted
invariant-loop-wanted l = l.places.items ≡ places_by_name (take l.wanted-index l.table) l.columns
