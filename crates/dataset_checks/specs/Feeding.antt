-- The change feed that keeps a table (Databricks SQL reference, AUTO CDC INTO).
use Rattle.std.specs.Prelude.{ℕ, Bool, List, Option, Result, Ok, Err}
use Rattle.value_core.specs.declared.schema.Column.{Column}
use Rattle.sql_tree.specs.declared.statement.CdcTree.{CdcTree}
use Rattle.plan_core.specs.declared.flow.Origin.{Origin}
use Rattle.plan_core.specs.declared.plan.Body.TheVariants as body
use Rattle.plan_core.specs.declared.plan.Dataset.{Dataset}
use Rattle.statement_checks.specs.declared.fault.CheckFault.{CheckFault}
use Rattle.origin_checks.specs.declared.resolved.Resolved.{Resolved}
use Rattle.origin_checks.specs.declared.resolved.Source.{Source}
use Rattle.origin_checks.specs.Origins.{columns_read, origin_as}
use Rattle.feed_checks.specs.declared.parts.FeedParts.{FeedParts}
use Rattle.feed_checks.specs.Feeds.{feed_flow, feed_parts, passed}
use Rattle.dataset_checks.specs.declared.parts.DatasetParts.{DatasetParts}
use Rattle.dataset_checks.specs.Ends.{◌>>=◌}
use Rattle.dataset_checks.specs.Reading.{feed_reading_fault, found_in, opened}

-- expectations see the outputs alone
abbrev pub feed_dataset : List ℕ → Origin → FeedParts → DatasetParts
feed_dataset name origin parts = record { body = body.Cdc (feed_flow name origin parts); columns = parts.columns; seen = parts.given }

-- over the columns that are read
abbrev pub fed : List ℕ → CdcTree → Source → List Column → Result DatasetParts CheckFault
fed name feed reads source = do
  parts ← feed_parts feed source
  Ok (feed_dataset name (origin_as reads) parts)

-- over the dataset that was found
abbrev pub feed_over : Bool → List ℕ → CdcTree → Source → Option Dataset → Result DatasetParts CheckFault
feed_over mixed name feed reads found = do
  _ ← passed (feed_reading_fault mixed feed reads found)
  fed name feed reads (columns_read reads found)

-- what the change feed of that name makes of its table, or the first check that it breaks
abbrev pub feed_by : Bool → List ℕ → CdcTree → List Dataset → Option Resolved → Result DatasetParts CheckFault
feed_by mixed name feed sofar resolved = do
  reads ← opened name resolved
  feed_over mixed name feed reads (found_in sofar reads)
