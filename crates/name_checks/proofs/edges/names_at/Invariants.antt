use Rattle.std.proofs.Common.{◌≡◌, take, map}
use Rattle.name_checks.specs.Edges.{dataset_name_at}
use Rattle.name_checks.proofs.edges.names_at.Given as goal

-- the names at the places so far
abbrev pub invariant-loop-place : goal.invariant-loop-place
invariant-loop-place l = l.path ≡ map (dataset_name_at l.names) (take l.place-index l.places)
