-- The query of a view (Databricks SQL reference, CREATE MATERIALIZED VIEW).
use Rattle.std.specs.Prelude.{ℕ, List, Option, Some, None, Result, Ok, Err}
use Rattle.value_core.specs.declared.schema.Column.{Column}
use Rattle.sql_tree.specs.declared.statement.Select.{Select}
use Rattle.plan_core.specs.declared.plan.Body.TheVariants as body
use Rattle.plan_core.specs.declared.plan.Dataset.{Dataset}
use Rattle.statement_checks.specs.declared.fault.CheckFault.{CheckFault}
use Rattle.statement_checks.specs.declared.fault.CheckFault.TheVariants.{NotBatch}
use Rattle.statement_checks.specs.Repeats.{first_of}
use Rattle.origin_checks.specs.declared.resolved.Resolved.{Resolved}
use Rattle.origin_checks.specs.declared.resolved.Source.{Source}
use Rattle.origin_checks.specs.declared.resolved.Source.TheVariants as source
use Rattle.origin_checks.specs.Origins.{columns_read, origin_batch_checks}
use Rattle.select_checks.specs.declared.view.ViewSelect.{ViewSelect}
use Rattle.select_checks.specs.Parts.{query_of_select}
use Rattle.select_checks.specs.Views.{view_select}
use Rattle.feed_checks.specs.Feeds.{passed}
use Rattle.dataset_checks.specs.declared.parts.DatasetParts.{DatasetParts}
use Rattle.dataset_checks.specs.Ends.{◌>>=◌}
use Rattle.dataset_checks.specs.Reading.{found_in, opened}

abbrev pub view_dataset : List ℕ → ViewSelect → DatasetParts
view_dataset origin given = record { body = body.View (query_of_select origin given); columns = given.columns; seen = given.columns }

-- over the columns that are read
abbrev pub viewed : Select → List ℕ → List Column → Result DatasetParts CheckFault
viewed select origin source = do
  given ← view_select select source
  Ok (view_dataset origin given)

-- the query of a dataset of that name, over the one that was found
abbrev pub view_over : Select → Source → Option Dataset → List ℕ → Result DatasetParts CheckFault
view_over select reads found origin = do
  _ ← passed (first_of (origin_batch_checks reads found))
  viewed select origin (columns_read reads found)

-- the dataset that is read, and not files
abbrev pub dataset_read : Source → Option (List ℕ)
dataset_read (source.Dataset stream name) = Some name
dataset_read (source.Files stream read) = None

-- a view reads no files
abbrev pub view_named : Select → Source → Option Dataset → Option (List ℕ) → Result DatasetParts CheckFault
view_named select reads found None = Err NotBatch
view_named select reads found (Some origin) = view_over select reads found origin

-- what the query of the view of that name gives, or the first check that it breaks
abbrev pub view_by : List ℕ → Select → List Dataset → Option Resolved → Result DatasetParts CheckFault
view_by name select sofar resolved = do
  reads ← opened name resolved
  view_named select reads (found_in sofar reads) (dataset_read reads)
