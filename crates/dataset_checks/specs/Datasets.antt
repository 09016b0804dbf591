-- What the statement of a dataset and its flows make, or the first check that they break.
use Rattle.std.specs.Prelude.{ℕ, ◌+◌, List, [], ◌∷◌, slice_get, Option, Some, None, Result, Ok, Err}
use Rattle.value_core.specs.declared.schema.Column.{Column}
use Rattle.sql_tree.specs.declared.statement.SqlItem.{SqlItem}
use Rattle.sql_tree.specs.declared.statement.Statement.{Statement}
use Rattle.sql_tree.specs.declared.statement.Statement.TheVariants as statement
use Rattle.plan_core.specs.declared.expectation.Expectation.{Expectation}
use Rattle.plan_core.specs.declared.plan.Dataset.{Dataset}
use Rattle.statement_checks.specs.declared.fault.Break.{Break}
use Rattle.statement_checks.specs.declared.fault.CheckFault.{CheckFault}
use Rattle.statement_checks.specs.declared.fault.CheckFault.TheVariants.{NoFlow}
use Rattle.statement_checks.specs.Breaks.{broken}
use Rattle.statement_checks.specs.Limits.{Check}
use Rattle.statement_checks.specs.Repeats.{first_of}
use Rattle.origin_checks.specs.declared.resolved.Resolved.{Resolved}
use Rattle.column_checks.specs.Tables.{columns_declared, declares_table, few_in_table}
use Rattle.select_checks.specs.Expecting.{expectations_over}
use Rattle.feed_checks.specs.Feeds.{passed}
use Rattle.dataset_checks.specs.declared.parts.DatasetParts.{DatasetParts}
use Rattle.dataset_checks.specs.Ends.{◌>>=◌, at_statement}
use Rattle.dataset_checks.specs.Viewing.{view_by}
use Rattle.dataset_checks.specs.Tables.{table_parts}

-- of the whole list of columns: there are few, and they are the declared ones
abbrev pub own_fault : List SqlItem → List Column → Check
own_fault items columns = first_of (few_in_table columns ∷ declares_table (columns_declared items) columns ∷ [])

abbrev pub dataset_of : List ℕ → List ℕ → ℕ → DatasetParts → List Expectation → Dataset
dataset_of name text level parts expectations = record {
  name = name;
  text = text;
  body = parts.body;
  columns = parts.columns;
  expectations = expectations;
  level = level;
}

-- with its expectations over the columns that they see
abbrev pub dataset_expecting : List ℕ → List SqlItem → ℕ → List ℕ → DatasetParts → Result Dataset CheckFault
dataset_expecting name items level text parts = do
  expectations ← expectations_over items parts.seen
  Ok (dataset_of name text level parts expectations)

-- the dataset of what fills it, or the first of its own faults; expectations come last
abbrev pub dataset_with : List ℕ → List SqlItem → ℕ → List ℕ → DatasetParts → Result Dataset CheckFault
dataset_with name items level text parts = do
  _ ← passed (own_fault items parts.columns)
  dataset_expecting name items level text parts

-- the faults of what fills it come first
abbrev pub dataset_filled : ℕ → List ℕ → List SqlItem → ℕ → List ℕ → Result DatasetParts Break → Result Dataset Break
dataset_filled place name items level text filled = do
  parts ← filled
  at_statement place (dataset_with name items level text parts)

-- the dataset that a statement declares; the statement of a flow declares none
abbrev pub statement_judged : List Statement → List Resolved → List Dataset → ℕ → ℕ → List ℕ → Statement → Result Dataset Break
statement_judged statements resolved sofar place level text (statement.Table name items select) =
    dataset_filled place name items level text (table_parts statements resolved sofar place name items select)
statement_judged statements resolved sofar place level text (statement.View name items select) =
    dataset_filled place name items level text (at_statement place (view_by name select sofar (slice_get resolved place)))
statement_judged statements resolved sofar place level text (statement.Insert flow target select) = Err (broken (place + 1) (NoFlow flow))
statement_judged statements resolved sofar place level text (statement.Cdc flow feed) = Err (broken (place + 1) (NoFlow flow))

abbrev pub judged_if_there : List Statement → List Resolved → List Dataset → ℕ → ℕ → List ℕ → Option Statement → Result Dataset Break
judged_if_there statements resolved sofar place level text None = Err (broken (place + 1) (NoFlow []))
judged_if_there statements resolved sofar place level text (Some statement) = statement_judged statements resolved sofar place level text statement

-- The dataset of the statement at this place, over the datasets that it reads, or the first check that it breaks: its
-- flows in declared order, its own AS first, then its columns, and then its expectations.
abbrev pub dataset_judged : List Statement → List Resolved → List Dataset → ℕ → ℕ → List ℕ → Result Dataset Break
dataset_judged statements resolved sofar place level text = judged_if_there statements resolved sofar place level text (slice_get statements place)
