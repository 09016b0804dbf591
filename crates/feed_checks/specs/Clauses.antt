-- What the clauses of a change feed say (Databricks SQL reference, AUTO CDC INTO).
use Rattle.std.specs.Prelude.{ℕ, ◌++◌, ◌==◌, ◌||◌, Bool, true, false, if◌then◌else◌, List, [], ◌∷◌, map, codes, Option, Some, None}
use Rattle.sql_tree.specs.declared.statement.CdcTree.{CdcTree}
use Rattle.sql_tree.specs.declared.statement.SqlSequence.{SqlSequence}
use Rattle.sql_tree.specs.declared.statement.SqlSequence.TheVariants as sequence
use Rattle.value_core.specs.declared.schema.Column.{Column}
use Rattle.value_core.specs.NameFold.{same_name}
use Rattle.feed_checks.specs.Places.{some_places, places_named, columns_at}

-- the parts of a sequence
abbrev pub sequence_names : SqlSequence → List (List ℕ)
sequence_names (sequence.One name) = name ∷ []
sequence_names (sequence.Struct names) = names

abbrev pub is_struct : SqlSequence → Bool
is_struct (sequence.One name) = false
is_struct (sequence.Struct names) = true

abbrev pub is_type_2 : Option ℕ → Bool
is_type_2 None = false
is_type_2 (Some type) = type == 2

-- whether the target keeps history; a feed without STORED AS is of SCD type 1
abbrev pub keeps_history : CdcTree → Bool
keeps_history feed = is_type_2 feed.scd

-- the output columns, in the spelling of the source: those of COLUMNS, or all
abbrev pub given_columns : CdcTree → List Column → List Column
given_columns feed source = columns_at source (some_places source feed.columns)

-- the columns of the sequence
abbrev pub sequence_columns : CdcTree → List Column → List Column
sequence_columns feed source = columns_at source (places_named source (sequence_names feed.sequence))

-- `__START_AT` and `__END_AT`, where a row of SCD type 2 starts and ends
abbrev pub start_name : List ℕ
start_name = codes "__START_AT"

abbrev pub end_name : List ℕ
end_name = codes "__END_AT"

abbrev pub is_period_name : List ℕ → Bool
is_period_name name = same_name name start_name || same_name name end_name

-- columns of this name, of the kinds of these
abbrev pub renamed : List ℕ → List Column → List Column
renamed name columns = map (λ column. record { name = name; kind = column.kind }) columns

-- the columns of the target: the outputs, and for SCD type 2 then `__START_AT` and `__END_AT` of the sequence's kind
abbrev pub target_columns : Bool → List Column → List Column → List Column
target_columns history parts given = if history then given ++ renamed start_name parts ++ renamed end_name parts else given
