use Rattle.std.proofs.Common.{◌≡◌, ◌++◌, drop}
use Rattle.plan_check.specs.Visits.{visits_with}
use Rattle.plan_check.proofs.visits.visits_with.Given as goal

-- the visits so far and those to the places that are left are all
abbrev pub invariant-loop-place : goal.invariant-loop-place
invariant-loop-place l = l.visits.items ++ visits_with (drop l.place-index l.places) l.rest ≡ visits_with l.places l.levels
