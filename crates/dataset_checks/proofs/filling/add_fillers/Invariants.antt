use Rattle.std.proofs.Common.{◌≡◌, ◌++◌, drop}
use Rattle.dataset_checks.specs.Filling.{fillers_from}
use Rattle.dataset_checks.proofs.filling.add_fillers.Given as goal

-- the places so far, and those of the statements that are left
abbrev pub invariant-loop-place : goal.invariant-loop-place
invariant-loop-place l = l.places.items ++ fillers_from l.table l.place (drop l.place l.statements) ≡ l.initial.places.items ++ fillers_from l.table 0 l.statements
