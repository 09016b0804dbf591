use Rattle.std.proofs.Common.{◌≡◌, ℕ, drop}
use Rattle.std.specs.Prelude.{max}
use Rattle.std.specs.List.{fold}
use Rattle.plan_core.specs.declared.plan.Dataset.{Dataset}
use Rattle.message_text.specs.PlanLines.{greatest_level}
use Rattle.message_text.proofs.plans.greatest_level.Given as goal

-- the greatest of those that are left and those before is the greatest of all
abbrev pub invariant-loop-dataset : goal.invariant-loop-dataset
invariant-loop-dataset l = fold (λ (greatest : ℕ) (dataset : Dataset). max greatest dataset.level) l.greatest (drop l.dataset-index l.plan) ≡ greatest_level l.plan
