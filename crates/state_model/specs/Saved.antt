-- A store's datasets as a payload has them, and with their older versions folded away.
use Rattle.std.specs.Prelude.{ℕ, max, min, List, [], ◌∷◌, ◌++◌, Option, Some, None, option_to_list, if◌then◌else◌, fold, flat_map, map}
use Rattle.value_core.specs.declared.cursor.Cursor.{Cursor}
use Rattle.value_core.specs.declared.cursor.Cursor.TheVariants.{Files, At, Never}
use Rattle.value_core.specs.NameFold.{same_name}
use Rattle.table_versions.specs.Versions.{folded, versions_of}
use Rattle.commit_payloads.specs.declared.definition.Definition.{Definition}
use Rattle.commit_payloads.specs.declared.definition.StoredFlow.{StoredFlow}
use Rattle.commit_payloads.specs.declared.definition.StoredOrigin.{StoredOrigin}
use Rattle.commit_payloads.specs.declared.definition.StoredOrigin.TheVariants.{Folder, Table}
use Rattle.commit_payloads.specs.declared.state.DatasetState.{DatasetState}
use Rattle.commit_payloads.specs.declared.state.State.{State as Saved}
use Rattle.state_model.specs.Dataset.{Dataset, State, definitions_of, version_of}

-- ---- as a payload has them

-- a dataset of its definition and what is kept beside it
abbrev pub joined : Definition → DatasetState → Dataset
joined definition state = record {
  definition = definition;
  table = versions_of state.base state.rows state.changes;
  cursors = state.cursors;
  counts = state.counts;
  events = state.events;
}

-- the datasets of definitions and as many states
abbrev pub side_by_side : List Definition → List DatasetState → State
side_by_side [] states = []
side_by_side (definition ∷ list) [] = []
side_by_side (definition ∷ list) (state ∷ states) = joined definition state ∷ side_by_side list states

-- the datasets that a payload has
abbrev pub read_back : Saved → State
read_back saved = side_by_side saved.list saved.states

-- what is kept of a dataset beside its definition
abbrev pub kept_of : Dataset → DatasetState
kept_of dataset = record {
  base = dataset.table.base;
  rows = dataset.table.rows;
  changes = dataset.table.changes;
  cursors = dataset.cursors;
  counts = dataset.counts;
  events = dataset.events;
}

-- a store's datasets as a payload has them
abbrev pub saved : State → Saved
saved state = record { list = definitions_of state; states = map kept_of state }

-- ---- folded

-- the version at which a flow over this origin stands in the dataset of a name, where it reads that one and has begun
abbrev pub read_version : List ℕ → StoredOrigin → Cursor → Option ℕ
read_version name (Table source) (At version) = if same_name source name then Some version else None
read_version name (Table source) (Files places) = None
read_version name (Table source) Never = None
read_version name (Folder folder) cursor = None

-- the versions at which flows stand in the dataset of a name, where there is one cursor a flow
abbrev pub versions_read : List ℕ → List StoredFlow → List Cursor → List ℕ
versions_read name [] cursors = []
versions_read name (flow ∷ flows) [] = []
versions_read name (flow ∷ flows) (cursor ∷ cursors) =
    option_to_list (read_version name flow.origin cursor) ++ versions_read name flows cursors

-- the versions at which the flows and views of a store stand in the dataset of a name
abbrev pub readers_of : State → List ℕ → List ℕ
readers_of state name = flat_map (λ reader. versions_read name reader.definition.flows reader.cursors) state

-- the least of some numbers and one more
abbrev pub least_of : ℕ → List ℕ → ℕ
least_of last numbers = fold min last numbers

-- the least version at which a flow or view stands that reads the dataset, and the version now where none does; a base never falls
abbrev pub base_for : State → Dataset → ℕ
base_for state dataset = max dataset.table.base (least_of (version_of dataset) (readers_of state dataset.definition.name))

-- the dataset with the versions folded away at which none of these stores' flows and views stands
abbrev pub folded_for : State → Dataset → Dataset
folded_for state dataset = record dataset { table = folded dataset.table (base_for state dataset) }

-- each dataset of a store folded so
abbrev pub compacted : State → State
compacted state = map (folded_for state) state
