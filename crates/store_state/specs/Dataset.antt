-- What a store knows of its datasets, and what each payload makes of it.
use Rattle.std.specs.Prelude.{ℕ, ◌+◌, List, [], ◌∷◌, ◌++◌, Option, Some, None, Bool, true, false, if◌then◌else◌, length, map, drop, find}
use Rattle.value_core.specs.declared.change.Change.{Change}
use Rattle.value_core.specs.declared.change.Tally.{Tally}
use Rattle.value_core.specs.declared.cursor.Cursor.{Cursor}
use Rattle.value_core.specs.declared.cursor.Cursor.TheVariants.{Files, Never}
use Rattle.value_core.specs.NameFold.{same_name}
use Rattle.value_core.specs.Order.{Row}
use Rattle.commit_records.specs.declared.definition.Definition.{Definition}
use Rattle.commit_records.specs.declared.definition.StoredExpectation.{StoredExpectation}
use Rattle.commit_records.specs.declared.definition.StoredFlow.{StoredFlow}
use Rattle.commit_records.specs.declared.definition.StoredOrigin.{StoredOrigin}
use Rattle.commit_records.specs.declared.definition.StoredOrigin.TheVariants.{Folder, Table}
use Rattle.commit_records.specs.declared.payload.Payload.{Payload}
use Rattle.commit_records.specs.declared.payload.Payload.TheVariants as payload
use Rattle.commit_records.specs.declared.take.Take.{Take}
use Rattle.store_state.specs.Versions.{Versions}

-- a dataset: its definition, its rows at a base version, the change of each version after it, how far
-- each of its flows has read, and the count of each of its expectations
pub record Dataset : Type 0 where
  pub definition : Definition
  pub base : ℕ
  pub rows : List Row
  pub changes : List Change
  pub cursors : List Cursor
  pub counts : List Tally

-- the datasets of a store, in the order of their definitions
abbrev pub State : Type 0
State = List Dataset

abbrev pub empty_state : State
empty_state = []

-- the versions that are kept of it
abbrev pub versions_of : Dataset → Versions
versions_of dataset = record { base = dataset.base; rows = dataset.rows; changes = dataset.changes }

-- the version now: one more for each change after the base
abbrev pub version_of : Dataset → ℕ
version_of dataset = dataset.base + length dataset.changes

abbrev pub definition_of : Dataset → Definition
definition_of dataset = dataset.definition

abbrev pub counts_of : Dataset → List Tally
counts_of dataset = dataset.counts

abbrev pub definitions_of : State → List Definition
definitions_of state = map definition_of state

-- ---- by name

abbrev pub is_defined : List ℕ → Definition → Bool
is_defined name definition = same_name definition.name name

abbrev pub is_named : List ℕ → Dataset → Bool
is_named name dataset = is_defined name dataset.definition

abbrev pub is_flow : List ℕ → StoredFlow → Bool
is_flow name flow = same_name flow.name name

-- the dataset of a name
abbrev pub dataset_of : State → List ℕ → Option Dataset
dataset_of state name = find (is_named name) state

-- the flow of a name
abbrev pub flow_of : Dataset → List ℕ → Option StoredFlow
flow_of dataset name = find (is_flow name) dataset.definition.flows

-- how far the flow of a name has read: there is one cursor a flow, in their order
abbrev pub cursor_in : List StoredFlow → List Cursor → List ℕ → Option Cursor
cursor_in [] cursors name = None
cursor_in (flow ∷ flows) [] name = None
cursor_in (flow ∷ flows) (cursor ∷ cursors) name = if is_flow name flow then Some cursor else cursor_in flows cursors name

abbrev pub cursor_of : Dataset → List ℕ → Option Cursor
cursor_of dataset name = cursor_in dataset.definition.flows dataset.cursors name

-- the cursors once the flow of a name has read up to another place
abbrev pub moved : List StoredFlow → List Cursor → List ℕ → Cursor → List Cursor
moved [] cursors name place = cursors
moved (flow ∷ flows) [] name place = []
moved (flow ∷ flows) (cursor ∷ cursors) name place = if is_flow name flow then place ∷ cursors else cursor ∷ moved flows cursors name place

-- the state with the dataset of a name changed
abbrev pub updated : List ℕ → (Dataset → Dataset) → State → State
updated name change [] = []
updated name change (dataset ∷ state) = if is_named name dataset then change dataset ∷ state else dataset ∷ updated name change state

-- ---- a definition begins

-- a flow over files has read none of them, and one over a dataset has read nothing yet
abbrev pub begun_cursor : StoredOrigin → Cursor
begun_cursor (Folder folder) = Files []
begun_cursor (Table source) = Never

abbrev pub first_cursor : StoredFlow → Cursor
first_cursor flow = begun_cursor flow.origin

abbrev pub no_tally : StoredExpectation → Tally
no_tally expectation = record { passed = 0; failed = 0 }

-- a dataset that begins: empty at version 0
abbrev pub begun : Definition → Dataset
begun definition = record {
  definition = definition;
  base = 0;
  rows = [];
  changes = [];
  cursors = map first_cursor definition.flows;
  counts = map no_tally definition.expectations;
}

-- all datasets begin anew, or those behind the ones that are there
abbrev pub defined : Bool → List Definition → State → State
defined true list state = map begun list
defined false list state = state ++ map begun (drop (length state) list)

-- ---- a batch is taken

abbrev pub both_tallies : Tally → Tally → Tally
both_tallies a b = record { passed = a.passed + b.passed; failed = a.failed + b.failed }

-- the counts with further ones, expectation by expectation
abbrev pub added : List Tally → List Tally → List Tally
added [] more = []
added (kept ∷ counts) [] = []
added (kept ∷ counts) (tally ∷ more) = both_tallies kept tally ∷ added counts more

-- one version more: its change, how far the flow has read now, and the counts that it adds
abbrev pub taken : Take → Dataset → Dataset
taken take dataset = record dataset {
  changes = dataset.changes ++ take.change ∷ [];
  cursors = moved dataset.definition.flows dataset.cursors take.flow take.cursor;
  counts = added dataset.counts take.counts;
}

-- ---- payloads

-- the state after a payload; the last three kinds have no spelling, so that none follows
abbrev pub after_payload : State → Payload → State
after_payload state (payload.Define fresh list) = defined fresh list state
after_payload state (payload.Take take) = updated take.table (taken take) state
after_payload state (payload.Refresh refresh) = state
after_payload state (payload.Reset names) = state
after_payload state (payload.Base base) = state

-- the state after payloads, from one on
abbrev pub state_from : State → List Payload → State
state_from state [] = state
state_from state (payload ∷ payloads) = state_from (after_payload state payload) payloads

-- the state that the payloads of a log come to
abbrev pub state_after : List Payload → State
state_after payloads = state_from empty_state payloads
