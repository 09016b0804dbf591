-- What each payload makes of a store.
use Rattle.std.specs.Prelude.{List, [], ◌∷◌, ◌++◌, ℕ, Bool, true, false, if◌then◌else◌, length, map, drop}
use Rattle.std.specs.List.{list_any}
use Rattle.value_core.specs.declared.change.Change.{Change}
use Rattle.value_core.specs.declared.change.Tally.{Tally}
use Rattle.value_core.specs.declared.cursor.Cursor.{Cursor}
use Rattle.value_core.specs.declared.cursor.Cursor.TheVariants.{Files, Never}
use Rattle.value_core.specs.declared.event.Event.{Event}
use Rattle.value_core.specs.Bags.{in_row_order}
use Rattle.value_core.specs.Changes.{change_of}
use Rattle.value_core.specs.EventOrder.{event_order, sorted_by}
use Rattle.value_core.specs.Order.{Row}
use Rattle.value_core.specs.Tallies.{added}
use Rattle.table_versions.specs.Versions.{grown, no_versions}
use Rattle.commit_payloads.specs.declared.definition.Definition.{Definition}
use Rattle.commit_payloads.specs.declared.definition.StoredExpectation.{StoredExpectation}
use Rattle.commit_payloads.specs.declared.definition.StoredFlow.{StoredFlow}
use Rattle.commit_payloads.specs.declared.definition.StoredOrigin.{StoredOrigin}
use Rattle.commit_payloads.specs.declared.definition.StoredOrigin.TheVariants.{Folder, Table}
use Rattle.commit_payloads.specs.declared.payload.Payload.{Payload}
use Rattle.commit_payloads.specs.declared.payload.Payload.TheVariants as payload
use Rattle.commit_payloads.specs.declared.take.Refresh.{Refresh}
use Rattle.commit_payloads.specs.declared.take.Take.{Take}
use Rattle.state_model.specs.Dataset.{Dataset, State, content, empty_state, is_flow, is_named}
use Rattle.state_model.specs.Saved.{read_back}

-- the state with the dataset of a name changed
abbrev pub updated : List ℕ → (Dataset → Dataset) → State → State
updated name change [] = []
updated name change (dataset ∷ state) = if is_named name dataset then change dataset ∷ state else dataset ∷ updated name change state

-- ---- a definition begins

-- a flow over files has read none of them, and one over a dataset has read nothing yet
abbrev pub begun_cursor : StoredOrigin → Cursor
begun_cursor (Folder folder) = Files []
begun_cursor (Table source) = Never

-- where a flow begins
abbrev pub first_cursor : StoredFlow → Cursor
first_cursor flow = begun_cursor flow.origin

-- the count of an expectation that was judged on no row
abbrev pub no_tally : StoredExpectation → Tally
no_tally expectation = record { passed = 0; failed = 0 }

-- a dataset that begins: empty at version 0
abbrev pub begun : Definition → Dataset
begun definition = record {
  definition = definition;
  table = no_versions;
  cursors = map first_cursor definition.flows;
  counts = map no_tally definition.expectations;
  events = [];
}

-- all datasets begin anew, or those behind the ones that are there
abbrev pub defined : Bool → List Definition → State → State
defined true list state = map begun list
defined false list state = state ++ map begun (drop (length state) list)

-- ---- a batch is taken

-- the cursors once the flow of a name has read up to another place
abbrev pub moved : List StoredFlow → List Cursor → List ℕ → Cursor → List Cursor
moved [] cursors name place = cursors
moved (flow ∷ flows) [] name place = []
moved (flow ∷ flows) (cursor ∷ cursors) name place = if is_flow name flow then place ∷ cursors else cursor ∷ moved flows cursors name place

-- the events that are kept once new ones came: all of them, by key and then by sequence
abbrev pub events_with : List Event → List Event → List Event
events_with kept new = sorted_by event_order (kept ++ new)

-- one version more: its change, how far the flow has read now, the counts that it adds, and its new events
abbrev pub taken : Take → Dataset → Dataset
taken take dataset = record dataset {
  table = grown dataset.table take.change;
  cursors = moved dataset.definition.flows dataset.cursors take.flow take.cursor;
  counts = added dataset.counts take.counts;
  events = events_with dataset.events take.events;
}

-- ---- a view is refreshed

-- one version more: its change, how far it has read now, and the counts that replace the old; a view has one flow
abbrev pub refreshed : Refresh → Dataset → Dataset
refreshed refresh dataset = record dataset {
  table = grown dataset.table refresh.change;
  cursors = refresh.cursor ∷ [];
  counts = refresh.counts;
}

-- ---- datasets are reset

-- the change that takes all rows away
abbrev pub emptying : List Row → Change
emptying rows = change_of (in_row_order rows) []

-- one version more, without rows, counts, events or positions
abbrev pub emptied : Dataset → Dataset
emptied dataset = record dataset {
  table = grown dataset.table (emptying (content dataset));
  cursors = map first_cursor dataset.definition.flows;
  counts = map no_tally dataset.definition.expectations;
  events = [];
}

-- one of these names is the dataset's
abbrev pub is_member : List (List ℕ) → Dataset → Bool
is_member names dataset = list_any (λ name. is_named name dataset) names

-- a dataset of one of these names is emptied, and another one stays
abbrev pub emptied_if : List (List ℕ) → Dataset → Dataset
emptied_if names dataset = if is_member names dataset then emptied dataset else dataset

-- each dataset of one of these names is emptied
abbrev pub reset : List (List ℕ) → State → State
reset names state = map (emptied_if names) state

-- ---- payloads

-- the state after a payload; a base is the whole state
abbrev pub after_payload : State → Payload → State
after_payload state (payload.Define fresh list) = defined fresh list state
after_payload state (payload.Take take) = updated take.table (taken take) state
after_payload state (payload.Refresh refresh) = updated refresh.view (refreshed refresh) state
after_payload state (payload.Reset names) = reset names state
after_payload state (payload.Base base) = read_back base

-- the state after payloads, from one on
abbrev pub state_from : State → List Payload → State
state_from state [] = state
state_from state (payload ∷ payloads) = state_from (after_payload state payload) payloads

-- the state that the payloads of a log come to
abbrev pub state_after : List Payload → State
state_after payloads = state_from empty_state payloads
