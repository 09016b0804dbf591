-- What is printed of a plan, and of a check that statements break.
use Rattle.std.specs.Prelude.{ℕ, List, [], ◌∷◌, ◌++◌, codes}
use Rattle.std.specs.Fmt.{decimal}
use Rattle.std.specs.List.{flat_map}
use Rattle.value_core.specs.declared.schema.Column.{Column}
use Rattle.value_core.specs.declared.value.Kind.{Kind}
use Rattle.value_core.specs.declared.value.Kind.TheVariants as kind
use Rattle.plan_core.specs.declared.plan.Body.{Body}
use Rattle.plan_core.specs.declared.plan.Body.TheVariants as body
use Rattle.plan_core.specs.declared.plan.Dataset.{Dataset}
use Rattle.type_check.specs.declared.fault.CheckFault.{CheckFault}
use Rattle.type_check.specs.declared.fault.CheckFault.TheVariants.{NotYet, Duplicate, TooMany, NotStreaming, BadOption, AggregateInStream, UnknownName, SchemaDiffers}
use Rattle.pipeline_run.specs.Escape.{ended, escaped}

-- ---- a plan

abbrev pub kind_word : Kind → List ℕ
kind_word kind.Bool = codes "BOOLEAN"
kind_word kind.Int = codes "INT"
kind_word kind.Big = codes "BIGINT"
kind_word kind.Str = codes "STRING"

abbrev pub column_text : Column → List ℕ
column_text column = escaped column.name ++ codes " " ++ kind_word column.kind

-- columns behind another one
abbrev pub more_columns : List Column → List ℕ
more_columns columns = flat_map (λ column. codes ", " ++ column_text column) columns

abbrev pub columns_text : List Column → List ℕ
columns_text [] = []
columns_text (first ∷ more) = column_text first ++ more_columns more

abbrev pub body_words : Body → List ℕ
body_words (body.Append flows) = codes "streaming table "
body_words (body.Cdc feed) = codes "streaming table "
body_words (body.View query) = codes "materialized view "

abbrev pub dataset_line : Dataset → List ℕ
dataset_line dataset = ended (body_words dataset.body ++ escaped dataset.name ++ codes " level " ++ decimal dataset.level ++ codes ": " ++ columns_text dataset.columns)

-- a line a dataset
abbrev pub plan_lines : List Dataset → List ℕ
plan_lines plan = flat_map dataset_line plan

-- ---- a check

abbrev pub fault_text : CheckFault → List ℕ
fault_text NotYet = codes "not yet supported"
fault_text (Duplicate name) = codes "duplicate " ++ escaped name
fault_text (TooMany count) = codes "too many: " ++ decimal count
fault_text (NotStreaming name) = codes "not streaming " ++ escaped name
fault_text (BadOption word) = codes "bad option " ++ escaped word
fault_text AggregateInStream = codes "aggregate in stream"
fault_text (UnknownName name) = codes "unknown name " ++ escaped name
fault_text (SchemaDiffers name) = codes "schema differs at " ++ escaped name

-- a check that the statement of this number breaks
abbrev pub broken_line : ℕ → CheckFault → List ℕ
broken_line statement fault = codes "statement " ++ decimal statement ++ codes ": " ++ fault_text fault
