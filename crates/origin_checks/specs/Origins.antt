-- The checks of what a flow reads, each over the dataset that it names.
use Rattle.std.specs.Prelude.{ℕ, Bool, true, false, if◌then◌else◌, List, [], ◌∷◌, codes, Option, Some, None}
use Rattle.value_core.specs.declared.schema.Column.{Column}
use Rattle.file_options.specs.declared.files.FilesRead.{FilesRead}
use Rattle.plan_core.specs.declared.flow.Origin.{Origin}
use Rattle.plan_core.specs.declared.flow.Origin.TheVariants as plan
use Rattle.plan_core.specs.declared.plan.Dataset.{Dataset}
use Rattle.plan_core.specs.Sound.{is_append}
use Rattle.statement_checks.specs.declared.fault.CheckFault.TheVariants.{UnknownName, NotStreaming, NotBatch, StreamOfChanging}
use Rattle.statement_checks.specs.Limits.{Check}
use Rattle.origin_checks.specs.declared.resolved.Source.{Source}
use Rattle.origin_checks.specs.declared.resolved.Source.TheVariants as source

-- a name without STREAM
abbrev pub streams_under : Bool → List ℕ → Check
streams_under true name = None
streams_under false name = Some (NotStreaming name)

-- a streaming flow reads a stream; files go by the name `read_files`
abbrev pub is_stream : Source → Check
is_stream (source.Dataset stream name) = streams_under stream name
is_stream (source.Files stream read) = streams_under stream (codes "read_files")

-- a view reads a dataset, and not as a stream
abbrev pub is_batch : Source → Check
is_batch (source.Dataset stream name) = if stream then Some NotBatch else None
is_batch (source.Files stream read) = Some NotBatch

-- the dataset was found
abbrev pub found_as : List ℕ → Option Dataset → Check
found_as name None = Some (UnknownName name)
found_as name (Some dataset) = None

-- the dataset that is named is there
abbrev pub is_found : Source → Option Dataset → Check
is_found (source.Dataset stream name) found = found_as name found
is_found (source.Files stream read) found = None

abbrev pub only_gains : Option Dataset → Check
only_gains None = None
only_gains (Some dataset) = if is_append dataset.body then None else Some StreamOfChanging

-- a stream is of files, or of a table that only gains rows
abbrev pub streams_gains : Source → Option Dataset → Check
streams_gains (source.Dataset stream name) found = only_gains found
streams_gains (source.Files stream read) found = None

-- what a streaming flow reads
abbrev pub origin_stream_checks : Source → Option Dataset → List Check
origin_stream_checks reads found =
    is_stream reads ∷
    is_found reads found ∷
    streams_gains reads found ∷ []

-- what a view reads
abbrev pub origin_batch_checks : Source → Option Dataset → List Check
origin_batch_checks reads found =
    is_batch reads ∷
    is_found reads found ∷ []

abbrev pub columns_found : Option Dataset → List Column
columns_found None = []
columns_found (Some dataset) = dataset.columns

-- the columns of the lines of files, or of the dataset
abbrev pub columns_read : Source → Option Dataset → List Column
columns_read (source.Dataset stream name) found = columns_found found
columns_read (source.Files stream read) found = read.shape.columns

abbrev pub table_as : List ℕ → Origin
table_as name = plan.Table name

abbrev pub files_as : FilesRead → Origin
files_as read = plan.Files read.dir read.shape

-- what a flow of the plan reads
abbrev pub origin_as : Source → Origin
origin_as (source.Dataset stream name) = table_as name
origin_as (source.Files stream read) = files_as read
