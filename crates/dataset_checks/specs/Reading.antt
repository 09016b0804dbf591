-- What a flow reads, and the checks of it that stand before those of its columns.
use Rattle.std.specs.Prelude.{ℕ, Bool, if◌then◌else◌, List, Option, Some, None, Result, Ok, Err}
use Rattle.std.specs.Option.{option_or}
use Rattle.sql_tree.specs.declared.statement.CdcTree.{CdcTree}
use Rattle.plan_core.specs.declared.plan.Dataset.{Dataset}
use Rattle.plan_core.specs.Sound.{dataset_named}
use Rattle.statement_checks.specs.declared.fault.CheckFault.{CheckFault}
use Rattle.statement_checks.specs.declared.fault.CheckFault.TheVariants.{BadOption, MixedFlows, NoFlow}
use Rattle.statement_checks.specs.Limits.{Check}
use Rattle.statement_checks.specs.Repeats.{first_of}
use Rattle.origin_checks.specs.declared.resolved.Resolved.{Resolved}
use Rattle.origin_checks.specs.declared.resolved.Resolved.TheVariants.{Nothing, Bad, From}
use Rattle.origin_checks.specs.declared.resolved.Source.{Source}
use Rattle.origin_checks.specs.declared.resolved.Source.TheVariants as source
use Rattle.origin_checks.specs.Origins.{origin_stream_checks}
use Rattle.feed_checks.specs.Feeds.{track_fault}

abbrev pub opened_as : List ℕ → Resolved → Result Source CheckFault
opened_as name (From reads) = Ok reads
opened_as name (Bad word) = Err (BadOption word)
opened_as name Nothing = Err (NoFlow name)

-- what is read under that name, where the options of `read_files` keep their rules; what reads nothing is no flow
abbrev pub opened : List ℕ → Option Resolved → Result Source CheckFault
opened name None = Err (NoFlow name)
opened name (Some resolved) = opened_as name resolved

-- the dataset among those so far that is read
abbrev pub found_in : List Dataset → Source → Option Dataset
found_in sofar (source.Dataset stream name) = dataset_named sofar name
found_in sofar (source.Files stream read) = None

-- whether a table has a change feed and another flow
abbrev pub unmixed : Bool → Check
unmixed mixed = if mixed then Some MixedFlows else None

-- a streaming flow reads a stream that only gains rows, and then its table has no change feed beside another flow
abbrev pub reading_fault : Bool → Source → Option Dataset → Check
reading_fault mixed reads found = option_or (first_of (origin_stream_checks reads found)) (unmixed mixed)

-- for a change feed TRACK HISTORY is judged before what it reads
abbrev pub feed_reading_fault : Bool → CdcTree → Source → Option Dataset → Check
feed_reading_fault mixed feed reads found = option_or (track_fault feed) (reading_fault mixed reads found)
