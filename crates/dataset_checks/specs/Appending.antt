-- The flow into a table that one select is (Databricks SQL reference, CREATE STREAMING TABLE and CREATE FLOW).
use Rattle.std.specs.Prelude.{ℕ, Bool, List, Option, Some, None, Result, Ok, Err}
use Rattle.value_core.specs.declared.schema.Column.{Column}
use Rattle.sql_tree.specs.declared.statement.Select.{Select}
use Rattle.plan_core.specs.declared.flow.Origin.{Origin}
use Rattle.plan_core.specs.declared.plan.Dataset.{Dataset}
use Rattle.statement_checks.specs.declared.fault.CheckFault.{CheckFault}
use Rattle.origin_checks.specs.declared.resolved.Resolved.{Resolved}
use Rattle.origin_checks.specs.declared.resolved.Source.{Source}
use Rattle.origin_checks.specs.Origins.{columns_read, origin_as}
use Rattle.select_checks.specs.declared.stream.StreamSelect.{StreamSelect}
use Rattle.select_checks.specs.Parts.{flow_of_select}
use Rattle.select_checks.specs.Streams.{stream_select}
use Rattle.column_checks.specs.ByName.{gives_table, items_placed, places_by_name}
use Rattle.feed_checks.specs.Feeds.{passed}
use Rattle.dataset_checks.specs.declared.parts.TableFlow.{TableFlow}
use Rattle.dataset_checks.specs.Ends.{◌>>=◌}
use Rattle.dataset_checks.specs.Reading.{found_in, opened, reading_fault}

-- the outputs in the order of the table's columns
abbrev pub select_placed : List Column → StreamSelect → StreamSelect
select_placed table given = record { filter = given.filter; outputs = items_placed given.outputs (places_by_name table given.columns); columns = table }

-- into a table of these columns, by name
abbrev pub select_by_name : List Column → StreamSelect → Result StreamSelect CheckFault
select_by_name table given = do
  _ ← passed (gives_table table given.columns)
  Ok (select_placed table given)

-- into a table of these columns, where they are known; else the columns are those that are given
abbrev pub select_into : Option (List Column) → StreamSelect → Result StreamSelect CheckFault
select_into None given = Ok given
select_into (Some table) given = select_by_name table given

abbrev pub table_flow : List ℕ → Origin → StreamSelect → TableFlow
table_flow name origin given = record { flow = flow_of_select name origin given; columns = given.columns }

abbrev pub placed_flow : List ℕ → Source → Option (List Column) → StreamSelect → Result TableFlow CheckFault
placed_flow name reads table given = do
  placed ← select_into table given
  Ok (table_flow name (origin_as reads) placed)

-- over the columns that are read
abbrev pub selected_flow : List ℕ → Select → Option (List Column) → Source → List Column → Result TableFlow CheckFault
selected_flow name select table reads source = do
  given ← stream_select select source
  placed_flow name reads table given

-- over the dataset that was found
abbrev pub flow_over : Bool → List ℕ → Select → Option (List Column) → Source → Option Dataset → Result TableFlow CheckFault
flow_over mixed name select table reads found = do
  _ ← passed (reading_fault mixed reads found)
  selected_flow name select table reads (columns_read reads found)

-- the flow of that name into a table whose columns may be known, or the first check that it breaks
abbrev pub flow_by : Bool → List ℕ → Select → Option (List Column) → List Dataset → Option Resolved → Result TableFlow CheckFault
flow_by mixed name select table sofar resolved = do
  reads ← opened name resolved
  flow_over mixed name select table reads (found_in sofar reads)
