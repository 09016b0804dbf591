-- An append table: what a store knows of it, and the payloads that it is stored by.
use Rattle.std.specs.Prelude.{◌≡◌, ℕ, List, [], ◌∷◌, map, slice_get, slice_index_or, Option, Some, None, Bool, true, false, ◌&&◌, if◌then◌else◌}
use Rattle.std.specs.List.{list_all}
use Rattle.value_core.specs.declared.cursor.Cursor.TheVariants.{Files}
use Rattle.value_core.specs.declared.cursor.FilePlace.{FilePlace}
use Rattle.value_core.specs.declared.schema.Column.{Column}
use Rattle.value_core.specs.declared.shape.Shape.{Shape}
use Rattle.value_core.specs.declared.value.Kind.{Kind}
use Rattle.value_core.specs.declared.value.Kind.TheVariants as kind
use Rattle.value_core.specs.declared.value.Value.TheVariants.{Null}
use Rattle.value_core.specs.Bags.{in_row_order}
use Rattle.value_core.specs.FilePlaces.{IsPlaces}
use Rattle.value_core.specs.Order.{Row}
use Rattle.landing_history.specs.Taken.{LandedLine}
use Rattle.line_rows.specs.Lines.{row_of, keeps_text}
use Rattle.commit_records.specs.declared.definition.Definition.{Definition}
use Rattle.commit_records.specs.declared.definition.StoredBody.TheVariants.{Append}
use Rattle.commit_records.specs.declared.definition.StoredFlow.{StoredFlow}
use Rattle.commit_records.specs.declared.definition.StoredOrigin.TheVariants.{Folder}
use Rattle.commit_records.specs.declared.payload.Payload.{Payload}
use Rattle.commit_records.specs.declared.payload.Payload.TheVariants as payload
use Rattle.store_state.specs.State.{Dataset, State, definitions_of}
use Rattle.table_update.specs.declared.table.AppendTable.{AppendTable}
use Rattle.table_update.specs.declared.table.Output.{Output}

-- ---- its definition

abbrev pub columns_of : List Output → List Column
columns_of outputs = map (λ output. output.column) outputs

-- its one flow, of its own name
abbrev pub flow_of : AppendTable → StoredFlow
flow_of table = record { name = table.name; origin = Folder table.folder }

abbrev pub definition_of : AppendTable → Definition
definition_of table = record {
  name = table.name;
  text = table.text;
  body = Append;
  columns = columns_of table.outputs;
  expectations = [];
  flows = flow_of table ∷ [];
  keys = [];
  sequence = [];
}

-- the payload that defines it
abbrev pub define : AppendTable → Payload
define table = payload.Define false (definition_of table ∷ [])

-- ---- its rows

-- the header line that a line stands under, where lines have one
abbrev pub head_given : Shape → List ℕ → Option (List ℕ)
head_given shape head = if shape.header then Some head else None

-- the values that outputs take of a row
abbrev pub selected : List Output → Row → Row
selected outputs row = map (λ output. slice_index_or row output.place Null) outputs

-- the row that the table has of a line
abbrev pub row_of_line : AppendTable → LandedLine → Row
row_of_line table line = selected table.outputs (row_of table.shape (head_given table.shape line.head) line.text)

abbrev pub rows_of : AppendTable → List LandedLine → List Row
rows_of table lines = map (row_of_line table) lines

-- the payload by which it takes rows that are in row order, and its flow has read up to these places
abbrev pub take_with : AppendTable → List Row → List FilePlace → Payload
take_with table added places =
    payload.Take (record { table = table.name; flow = table.name; cursor = Files places; change = record { removed = []; added = added }; counts = []; events = [] })

-- the same of the rows of these lines
abbrev pub take_of : AppendTable → List LandedLine → List FilePlace → Payload
take_of table lines places = take_with table (in_row_order (rows_of table lines)) places

-- ---- whether it can be kept

abbrev pub same_kind : Kind → Kind → Bool
same_kind kind.Bool kind.Bool = true
same_kind kind.Int kind.Int = true
same_kind kind.Big kind.Big = true
same_kind kind.Str kind.Str = true
same_kind one other = false

abbrev pub is_of_kind : Option Column → Kind → Bool
is_of_kind None wanted = false
is_of_kind (Some column) wanted = same_kind column.kind wanted

-- an output takes one of these columns, of its own kind
abbrev pub is_column_of : List Column → Output → Bool
is_column_of columns output = is_of_kind (slice_get columns output.place) output.column.kind

-- a column that keeps rescued lines is a STRING, and each output takes a column that lines have
abbrev pub is_sound : AppendTable → Bool
is_sound table = keeps_text table.shape && list_all (is_column_of table.shape.columns) table.outputs

-- the same of a pipeline's table, where it has one
abbrev pub is_sound_plan : Option AppendTable → Bool
is_sound_plan None = true
is_sound_plan (Some table) = is_sound table

-- ---- a store of this table

-- the store has this table alone, and its flow has read up to these places
pub record HoldsTable (table : AppendTable) (state : State) (dataset : Dataset) (places : List FilePlace) : Type 0 where
  pub only : state ≡ dataset ∷ []
  pub definition : dataset.definition ≡ definition_of table
  pub read : dataset.cursors ≡ Files places ∷ []
  pub counts : dataset.counts ≡ []
  pub form : IsPlaces places

-- the store has no dataset, or this table alone, by this definition
abbrev pub IsDefinedBy : AppendTable → State → Type 0
IsDefinedBy table state = definitions_of state ≡ definition_of table ∷ []
