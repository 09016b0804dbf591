use Rattle.std.proofs.Common.{◌↔◌, length}
use Rattle.value_core.specs.FilePlaces.{IsPlaces}
use Rattle.value_core.proofs.cursor.FilePlaces.is_ascending.Given as goal

-- the places are ascending exactly where the rest is
abbrev pub invariant-loop-first : goal.invariant-loop-first
invariant-loop-first l = IsPlaces l.rest ↔ IsPlaces l.fn.self

abbrev pub decreases-loop-first : goal.decreases-loop-first
decreases-loop-first l = length l.rest
