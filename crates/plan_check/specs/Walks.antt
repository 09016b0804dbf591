-- The datasets of a pipeline, each checked over those of lesser levels.
use Rattle.std.specs.Prelude.{ℕ, List, [], ◌∷◌, ◌++◌, slice_get, Option, Some, None, option_and_then, Result, Ok, Err}
use Rattle.sql_tree.specs.declared.statement.Statement.{Statement}
use Rattle.sql_tree.specs.Print.{print}
use Rattle.sql_tree.specs.Spelling.{spelled}
use Rattle.sql_print.specs.Placed.{statements_at}
use Rattle.plan_core.specs.declared.plan.Dataset.{Dataset}
use Rattle.statement_checks.specs.declared.fault.Break.{Break}
use Rattle.statement_checks.specs.Declares.{dataset_name}
use Rattle.origin_checks.specs.declared.resolved.Resolved.{Resolved}
use Rattle.column_checks.specs.ByName.{items_placed}
use Rattle.dataset_checks.specs.Datasets.{dataset_judged}
use Rattle.dataset_checks.specs.Ends.{◌>>=◌}
use Rattle.dataset_checks.specs.Filling.{dataset_places}
use Rattle.plan_check.specs.declared.visits.Visit.{Visit}
use Rattle.plan_check.specs.Visits.{by_level, levels_in, of_level, visits_at}

-- the name of the dataset whose statement is at a place
abbrev pub name_at : List Statement → ℕ → Option (List ℕ)
name_at statements place = option_and_then dataset_name (slice_get statements place)

abbrev pub text_named : List Statement → ℕ → Option (List ℕ) → List ℕ
text_named statements place None = []
text_named statements place (Some name) = spelled (print (statements_at statements (dataset_places statements place name)))

-- the text of a dataset: the canonical print of its statement and of the flows into it
abbrev pub text_at : List Statement → ℕ → List ℕ
text_at statements place = text_named statements place (name_at statements place)

-- a dataset over those of lesser levels, or the first check that it breaks
abbrev pub visited : List Statement → List Resolved → List Dataset → Visit → Result Dataset Break
visited statements resolved lesser visit = dataset_judged statements resolved lesser visit.place visit.level (text_at statements visit.place)

-- the datasets of one level behind others, each over those of lesser levels; or the first break
abbrev pub level_behind : List Statement → List Resolved → List Dataset → List Dataset → List Visit → Result (List Dataset) Break
level_behind statements resolved lesser before [] = Ok before
level_behind statements resolved lesser before (visit ∷ more) = do
  dataset ← visited statements resolved lesser visit
  level_behind statements resolved lesser (before ++ dataset ∷ []) more

-- the datasets of these levels behind those of lesser ones, level by level; or the first break
abbrev pub levels_behind : List Statement → List Resolved → List Visit → List Dataset → List ℕ → Result (List Dataset) Break
levels_behind statements resolved visits lesser [] = Ok lesser
levels_behind statements resolved visits lesser (level ∷ more) = do
  datasets ← level_behind statements resolved lesser lesser (of_level visits level)
  levels_behind statements resolved visits datasets more

-- the datasets by level
abbrev pub walk : List Statement → List Resolved → List Visit → Result (List Dataset) Break
walk statements resolved visits = levels_behind statements resolved visits [] (levels_in visits)

-- datasets that come by level, in the order of places
abbrev pub in_order : List Visit → List ℕ → List Dataset → List Dataset
in_order visits places datasets = items_placed datasets (visits_at (by_level visits) places)
