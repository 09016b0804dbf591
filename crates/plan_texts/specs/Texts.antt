-- Datasets of some pipeline among those of another one.
use Rattle.std.specs.Prelude.{◌≡◌, List, Some, IsSomeAnd}
use Rattle.std.specs.List.{AllByRecursion}
use Rattle.plan_core.specs.declared.plan.Dataset.{Dataset}
use Rattle.plan_core.specs.Sound.{dataset_named}

-- each of these is the plan's dataset of its name
abbrev pub AreOfPlan : List Dataset → List Dataset → Type 0
AreOfPlan plan parts = AllByRecursion (λ part. dataset_named plan part.name ≡ Some part) parts

-- the plan has a dataset of the name of each of these, with its text
abbrev pub HaveTexts : List Dataset → List Dataset → Type 0
HaveTexts plan parts = AllByRecursion (λ part. IsSomeAnd (dataset_named plan part.name) (λ other. part.text ≡ other.text)) parts
