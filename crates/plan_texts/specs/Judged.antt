-- What the datasets of a plan are to the statements that declare and fill them.
use Rattle.std.specs.Prelude.{◌≡◌, ◌⊎◌, ℕ, ◌+◌, ◌<◌, List, slice_get, Some, Ok}
use Rattle.std.specs.List.{AllByRecursion}
use Rattle.sql_tree.specs.declared.statement.Statement.{Statement}
use Rattle.sql_print.specs.Placed.{statements_at}
use Rattle.plan_core.specs.declared.plan.Dataset.{Dataset}
use Rattle.plan_core.specs.Sound.{dataset_named}
use Rattle.name_checks.specs.Sources.{source_name}
use Rattle.origin_checks.specs.declared.resolved.Resolved.{Resolved}
use Rattle.origin_checks.specs.Resolving.{AreResolved}
use Rattle.dataset_checks.specs.Datasets.{dataset_judged}
use Rattle.dataset_checks.specs.Filling.{dataset_places}
use Rattle.plan_check.specs.Walks.{name_at, text_at}

-- the statement at a place, which declares the dataset of that name, and those of the flows into it
abbrev pub statements_of : List Statement → ℕ → List ℕ → List Statement
statements_of statements place name = statements_at statements (dataset_places statements place name)

-- ---- levels

-- one of these statements reads the dataset
pub record IsSource (plan : List Dataset) (readers : List Statement) (source : Dataset) : Type 0 where
  pub index : ℕ
  pub reader : Statement
  pub is_there : slice_get readers index ≡ Some reader
  pub name : List ℕ
  pub reads : source_name reader ≡ Some name
  pub found : dataset_named plan name ≡ Some source

-- the level is 0 where these statements read no dataset, and else one more than the greatest level of what they read
pub record IsLevelAbove (plan : List Dataset) (readers : List Statement) (level : ℕ) : Type 0 where
  pub above : (source : Dataset) → IsSource plan readers source → source.level < level
  pub least : (level ≡ 0) ⊎ ((source : Dataset) × IsSource plan readers source × (level ≡ source.level + 1))

-- ---- datasets

-- The dataset is what its statements make over some datasets of the plan, with the canonical print of its statements for
-- its text and the level above what they read.
pub record IsJudged (statements : List Statement) (resolved : List Resolved) (plan : List Dataset) (dataset : Dataset) : Type 0 where
  pub place : ℕ
  pub named : name_at statements place ≡ Some dataset.name
  pub text_is : dataset.text ≡ text_at statements place
  pub sofar : List Dataset
  pub of_plan : (name : List ℕ) (source : Dataset) → dataset_named sofar name ≡ Some source → dataset_named plan name ≡ Some source
  pub judged : dataset_judged statements resolved sofar place dataset.level dataset.text ≡ Ok dataset
  pub level_is : IsLevelAbove plan (statements_of statements place dataset.name) dataset.level

-- so is each dataset of a plan
pub record AreJudged (statements : List Statement) (plan : List Dataset) : Type 0 where
  pub resolved : List Resolved
  pub are_resolved : AreResolved statements resolved
  pub each : AllByRecursion (IsJudged statements resolved plan) plan
