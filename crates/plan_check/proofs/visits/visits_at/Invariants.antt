use Rattle.std.proofs.Common.{◌≡◌, ◌++◌, drop}
use Rattle.plan_check.specs.Visits.{visits_at}
use Rattle.plan_check.proofs.visits.visits_at.Given as goal

-- the visits so far and those to the places that are left are all
abbrev pub invariant-loop-place : goal.invariant-loop-place
invariant-loop-place l = l.indices.items ++ visits_at l.visits (drop l.place-index l.places) ≡ visits_at l.visits l.places
