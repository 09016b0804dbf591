-- What an update can run.
use Rattle.std.specs.Prelude.{ℕ, ◌+◌, not, List, position, slice_get, Option, option_and_then, option_map}
use Rattle.sql_tree.specs.declared.statement.Statement.{Statement}
use Rattle.plan_core.specs.declared.plan.Dataset.{Dataset}
use Rattle.plan_core.specs.Sound.{is_append}
use Rattle.plan_check.specs.Visits.{declared_places}

-- the place in a plan of the first dataset that an update can't run: one that is no append table
abbrev pub first_unbuilt : List Dataset → Option ℕ
first_unbuilt plan = position (λ (dataset : Dataset). not (is_append dataset.body)) plan

-- the place of the statement that declares the dataset at a place of the plan
abbrev pub declared_place : List Statement → ℕ → Option ℕ
declared_place statements dataset = slice_get (declared_places statements) dataset

-- the number, from 1, of the statement of the first dataset that an update can't run
abbrev pub unbuilt_in : List Statement → List Dataset → Option ℕ
unbuilt_in statements plan = option_map (λ place. place + 1) (option_and_then (declared_place statements) (first_unbuilt plan))
