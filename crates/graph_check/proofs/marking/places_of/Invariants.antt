use Rattle.graph_check.proofs.MarkLemmas.{ArePlaces}
use Rattle.graph_check.proofs.marking.places_of.Given as goal

abbrev pub invariant-loop-place : goal.invariant-loop-place
invariant-loop-place l = ArePlaces l.marks l.place l.places.items
