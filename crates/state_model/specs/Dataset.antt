-- What a store knows of its datasets.
use Rattle.std.specs.Prelude.{ℕ, List, [], ◌∷◌, Option, Some, None, Bool, if◌then◌else◌, map, find}
use Rattle.value_core.specs.declared.change.Change.{Change}
use Rattle.value_core.specs.declared.change.Tally.{Tally}
use Rattle.value_core.specs.declared.cursor.Cursor.{Cursor}
use Rattle.value_core.specs.declared.event.Event.{Event}
use Rattle.value_core.specs.NameFold.{same_name}
use Rattle.value_core.specs.Order.{Row}
use Rattle.table_versions.specs.Versions as versions
use Rattle.table_versions.specs.Versions.{Versions, content_now, now_of, changes_since}
use Rattle.commit_payloads.specs.declared.definition.Definition.{Definition}
use Rattle.commit_payloads.specs.declared.definition.StoredFlow.{StoredFlow}

-- a dataset: its definition, its rows by versions, how far each of its flows has read, the count of each of its
-- expectations, and the events of a change feed by key and then by sequence
pub record Dataset : Type 0 where
  pub definition : Definition
  pub table : Versions
  pub cursors : List Cursor
  pub counts : List Tally
  pub events : List Event

-- the datasets of a store, in the order of their definitions
abbrev pub State : Type 0
State = List Dataset

-- a store without datasets
abbrev pub empty_state : State
empty_state = []

-- the rows of a dataset now
abbrev pub content : Dataset → List Row
content dataset = content_now dataset.table

-- its rows at a version
abbrev pub content_at : Dataset → ℕ → List Row
content_at dataset version = versions.content_at dataset.table version

-- the changes of its versions after one
abbrev pub changes_after : Dataset → ℕ → List Change
changes_after dataset version = changes_since dataset.table version

-- its version now
abbrev pub version_of : Dataset → ℕ
version_of dataset = now_of dataset.table

-- what it was defined as
abbrev pub definition_of : Dataset → Definition
definition_of dataset = dataset.definition

-- the definitions of a store
abbrev pub definitions_of : State → List Definition
definitions_of state = map definition_of state

-- ---- by name

-- a definition has a name, whatever the case of its ASCII letters
abbrev pub is_defined : List ℕ → Definition → Bool
is_defined name definition = same_name definition.name name

-- a dataset has it
abbrev pub is_named : List ℕ → Dataset → Bool
is_named name dataset = is_defined name dataset.definition

-- a flow has it
abbrev pub is_flow : List ℕ → StoredFlow → Bool
is_flow name flow = same_name flow.name name

-- the dataset of a name
abbrev pub dataset_of : State → List ℕ → Option Dataset
dataset_of state name = find (is_named name) state

-- the flow of a name
abbrev pub flow_of : Dataset → List ℕ → Option StoredFlow
flow_of dataset name = find (is_flow name) dataset.definition.flows

-- how far the flow of a name has read, where there is one cursor a flow, in their order
abbrev pub cursor_in : List StoredFlow → List Cursor → List ℕ → Option Cursor
cursor_in [] cursors name = None
cursor_in (flow ∷ flows) [] name = None
cursor_in (flow ∷ flows) (cursor ∷ cursors) name = if is_flow name flow then Some cursor else cursor_in flows cursors name

-- how far the flow of a name of a dataset has read
abbrev pub cursor_of : Dataset → List ℕ → Option Cursor
cursor_of dataset name = cursor_in dataset.definition.flows dataset.cursors name
