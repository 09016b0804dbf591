-- Datasets whose names differ.
use Rattle.std.specs.Prelude.{◌≡◌, List, [], ◌∷◌, ◌++◌, None}
use Rattle.plan_core.specs.declared.plan.Dataset.{Dataset}
use Rattle.plan_core.specs.Sound.{dataset_named}

-- no dataset has the name of one before it, but for the case of ASCII letters
abbrev pub AreNewBehind : List Dataset → List Dataset → Type 0
AreNewBehind before [] = Unit {0}
AreNewBehind before (first ∷ more) = (dataset_named before first.name ≡ None) × AreNewBehind (before ++ first ∷ []) more
