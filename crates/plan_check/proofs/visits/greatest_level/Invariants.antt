use Rattle.std.proofs.Common.{◌≡◌, ℕ, drop}
use Rattle.std.specs.Prelude.{max}
use Rattle.std.specs.List.{fold}
use Rattle.plan_check.specs.declared.visits.Visit.{Visit}
use Rattle.plan_check.specs.Visits.{greatest_level}
use Rattle.plan_check.proofs.visits.greatest_level.Given as goal

-- the greatest of those that are left and those before is the greatest of all
abbrev pub invariant-loop-visit : goal.invariant-loop-visit
invariant-loop-visit l = fold (λ (greatest : ℕ) (visit : Visit). max greatest visit.level) l.greatest (drop l.visit-index l.visits) ≡ greatest_level l.visits
