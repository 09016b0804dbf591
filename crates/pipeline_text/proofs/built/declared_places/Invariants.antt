use Rattle.std.proofs.Common.{◌≡◌, ◌++◌, drop}
use Rattle.plan_check.specs.Visits.{declared_from}
use Rattle.pipeline_text.proofs.built.declared_places.Given as goal

-- those found and those that are left are all
abbrev pub invariant-loop-place : goal.invariant-loop-place
invariant-loop-place l = l.places.items ++ declared_from l.place (drop l.place l.statements) ≡ declared_from 0 l.statements
