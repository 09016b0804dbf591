-- When a payload follows a state.
use Rattle.std.specs.Prelude.{◌≡◌, ◌⊎◌, ⊤, ℕ, ◌+◌, ◌*◌, ◌-◌, ◌<◌, ◌≤◌, ◌^◌, nat_lt, nat_le, List, [], ◌∷◌, ◌++◌, Option, Some, None, is_none, is_some, IsSomeAnd, IfSome, Bool, true, false, not, ◌&&◌, length, map, take, find, filter_map, slice_get, bytes_eq}
use Rattle.std.specs.List.{list_all, list_any}
use Rattle.value_core.specs.declared.change.Tally.{Tally}
use Rattle.value_core.specs.declared.cursor.Cursor.{Cursor}
use Rattle.value_core.specs.declared.cursor.Cursor.TheVariants.{Files, At, Never}
use Rattle.value_core.specs.declared.cursor.FilePlace.{FilePlace}
use Rattle.value_core.specs.declared.schema.Column.{Column}
use Rattle.value_core.specs.declared.value.Kind.{Kind}
use Rattle.value_core.specs.declared.event.Event.{Event}
use Rattle.value_core.specs.declared.event.EventKind.{EventKind}
use Rattle.value_core.specs.declared.event.EventKind.TheVariants.{Upsert, Delete, Truncate}
use Rattle.value_core.specs.Changes.{Holds}
use Rattle.value_core.specs.EventOrder.{same_moment}
use Rattle.value_core.specs.Fits.{row_fits}
use Rattle.value_core.specs.NameFold.{same_name}
use Rattle.value_core.specs.Order.{Row, is_null}
use Rattle.net_changes.specs.Chains.{Follow}
use Rattle.commit_payloads.specs.declared.definition.Definition.{Definition}
use Rattle.commit_payloads.specs.declared.definition.StoredBody.{StoredBody}
use Rattle.commit_payloads.specs.declared.definition.StoredBody.TheVariants.{Append, Scd1, Scd2, View}
use Rattle.commit_payloads.specs.declared.definition.StoredFlow.{StoredFlow}
use Rattle.commit_payloads.specs.declared.definition.StoredOrigin.{StoredOrigin}
use Rattle.commit_payloads.specs.declared.definition.StoredOrigin.TheVariants.{Folder, Table}
use Rattle.commit_payloads.specs.declared.payload.Payload.{Payload}
use Rattle.commit_payloads.specs.declared.payload.Payload.TheVariants as payload
use Rattle.commit_payloads.specs.declared.take.Refresh.{Refresh}
use Rattle.commit_payloads.specs.declared.take.Take.{Take}
use Rattle.commit_payloads.specs.Payloads.{HasSpelling}
use Rattle.state_model.specs.Dataset.{Dataset, State, content, version_of, definitions_of, is_defined, dataset_of, flow_of, cursor_of}
use Rattle.state_model.specs.After.{begun_cursor, no_tally}
use Rattle.state_model.specs.Saved.{read_back}

-- ---- definitions

-- an append table; its spelling has neither keys nor a sequence
abbrev pub is_append_body : StoredBody → Bool
is_append_body Append = true
is_append_body Scd1 = false
is_append_body Scd2 = false
is_append_body View = false

abbrev pub is_append : Definition → Bool
is_append definition = is_append_body definition.body

-- a view, and else a table that takes batches
abbrev pub is_view : StoredBody → Bool
is_view View = true
is_view Append = false
is_view Scd1 = false
is_view Scd2 = false

-- a change feed, which keeps events
abbrev pub keeps_events : StoredBody → Bool
keeps_events Append = false
keeps_events Scd1 = true
keeps_events Scd2 = true
keeps_events View = false

-- no name is that of a later definition
abbrev pub are_distinct : List Definition → Bool
are_distinct [] = true
are_distinct (definition ∷ list) = is_none (find (is_defined definition.name) list) && are_distinct list

-- the definitions that are there come first, unchanged and in order, unless all begin anew
abbrev pub Keeps : State → Bool → List Definition → Type 0
Keeps state true list = ⊤
Keeps state false list = take (length state) list ≡ definitions_of state

pub record FitsDefine (state : State) (fresh : Bool) (list : List Definition) : Type 0 where
  pub distinct : are_distinct list ≡ true
  pub kept : Keeps state fresh list

-- ---- how far a flow has read

-- a place of the same file, and not before the old one
abbrev pub keeps_place : FilePlace → FilePlace → Bool
keeps_place old new = bytes_eq new.file old.file && nat_le old.place new.place

abbrev pub is_kept : FilePlace → List FilePlace → Bool
is_kept old new = list_any (keeps_place old) new

-- each file is among the new places, and not before its old place
abbrev pub none_falls : List FilePlace → List FilePlace → Bool
none_falls [] new = true
none_falls (old ∷ places) new = is_kept old new && none_falls places new

-- the source is there, and has come to the version
abbrev pub IsReached : State → List ℕ → ℕ → Type 0
IsReached state source version = IsSomeAnd (dataset_of state source) (λ dataset. version ≤ version_of dataset)

-- places in files don't fall
abbrev pub FilesMove : Cursor → Cursor → Type 0
FilesMove (Files old) (Files new) = none_falls old new ≡ true
FilesMove old new = ⊥

-- a version doesn't fall, and its source has reached it
abbrev pub VersionMoves : State → List ℕ → Cursor → Cursor → Type 0
VersionMoves state source Never Never = ⊤
VersionMoves state source Never (At version) = IsReached state source version
VersionMoves state source (At old) (At version) = (old ≤ version) × IsReached state source version
VersionMoves state source old new = ⊥

-- a cursor has the form of its flow's origin, and doesn't fall
abbrev pub MovesOn : State → StoredOrigin → Cursor → Cursor → Type 0
MovesOn state (Folder folder) old new = FilesMove old new
MovesOn state (Table source) old new = VersionMoves state source old new

-- the flow is there, and its cursor moves on
abbrev pub FlowMoves : State → Option StoredFlow → Option Cursor → Cursor → Type 0
FlowMoves state None old new = ⊥
FlowMoves state (Some flow) None new = ⊥
FlowMoves state (Some flow) (Some old) new = MovesOn state flow.origin old new

-- ---- rows and counts

abbrev pub kind_of : Column → Kind
kind_of column = column.kind

-- a row has one value a column, NULL or of its kind
abbrev pub is_row_of : List Column → Row → Bool
is_row_of columns row = row_fits (map kind_of columns) row

-- each row does
abbrev pub all_fit : List Column → List Row → Bool
all_fit columns rows = list_all (is_row_of columns) rows

-- a count and a further one come to at most 2^63 - 1
abbrev pub is_within : ℕ → ℕ → Bool
is_within kept more = nat_lt (kept + more) (2 ^ 63)

abbrev pub tally_fits : Tally → Tally → Bool
tally_fits kept more = is_within kept.passed more.passed && is_within kept.failed more.failed

-- there is one further count for each count, and none passes its limit
abbrev pub counts_fit : List Tally → List Tally → Bool
counts_fit [] [] = true
counts_fit [] (tally ∷ more) = false
counts_fit (kept ∷ counts) [] = false
counts_fit (kept ∷ counts) (tally ∷ more) = tally_fits kept tally && counts_fit counts more

-- ---- events

-- the kinds of the columns of an event: those of a table's columns, where SCD type 2 has where each row starts and ends behind
abbrev pub event_kinds : Definition → StoredBody → List Kind
event_kinds definition Scd2 = take (length definition.columns - 2 * length definition.sequence) (map kind_of definition.columns)
event_kinds definition body = map kind_of definition.columns

-- the kinds of the key of an event
abbrev pub key_kinds : Definition → List Kind
key_kinds definition = filter_map (λ at. slice_get (event_kinds definition definition.body) at) definition.keys

-- an event has the parts of its kind beside these: the key of an upsert and of a delete, and the columns of an upsert
abbrev pub parts_fit : Definition → Event → EventKind → Bool
parts_fit definition event Upsert = row_fits (key_kinds definition) event.key && row_fits (event_kinds definition definition.body) event.columns
parts_fit definition event Delete = row_fits (key_kinds definition) event.key
parts_fit definition event Truncate = true

-- its sequence has no NULL
abbrev pub event_fits : Definition → Event → Bool
event_fits definition event = row_fits definition.sequence event.sequence && not (list_any is_null event.sequence) && parts_fit definition event event.kind

-- none is of the moment of a kept one or of an earlier one
abbrev pub are_new : List Event → List Event → Bool
are_new kept [] = true
are_new kept (event ∷ more) = not (list_any (same_moment event) kept) && are_new (kept ++ event ∷ []) more

-- ---- a batch

-- the rules of a batch that speak of its table alone
pub record FitsTable (batch : Take) (dataset : Dataset) : Type 0 where
  pub takes : is_view dataset.definition.body ≡ false
  pub removes_none : is_append dataset.definition ≡ true → batch.change.removed ≡ []
  pub no_events : is_append dataset.definition ≡ true → batch.events ≡ []
  pub are_there : Holds (content dataset) batch.change.removed
  pub rows_fit : all_fit dataset.definition.columns batch.change.added ≡ true
  pub events_fit : list_all (event_fits dataset.definition) batch.events ≡ true
  pub events_new : are_new dataset.events batch.events ≡ true
  pub one_each : length batch.counts ≡ length dataset.definition.expectations
  pub within : counts_fit dataset.counts batch.counts ≡ true

pub record FitsTake (state : State) (batch : Take) (dataset : Dataset) : Type 0 where
  pub table : FitsTable batch dataset
  pub moves : FlowMoves state (flow_of dataset batch.flow) (cursor_of dataset batch.flow) batch.cursor

-- ---- a refresh

-- its counts replace the old ones, and its one flow, of its own name, doesn't fall
pub record FitsRefresh (state : State) (refresh : Refresh) (dataset : Dataset) : Type 0 where
  pub view : is_view dataset.definition.body ≡ true
  pub are_there : Holds (content dataset) refresh.change.removed
  pub rows_fit : all_fit dataset.definition.columns refresh.change.added ≡ true
  pub one_each : length refresh.counts ≡ length dataset.definition.expectations
  pub within : counts_fit (map no_tally dataset.definition.expectations) refresh.counts ≡ true
  pub moves : FlowMoves state (flow_of dataset dataset.definition.name) (cursor_of dataset dataset.definition.name) refresh.cursor

-- ---- a reset

-- each name is that of a dataset
abbrev pub are_defined : State → List (List ℕ) → Bool
are_defined state names = list_all (λ name. is_some (dataset_of state name)) names

-- no name is that of a later one
abbrev pub names_differ : List (List ℕ) → Bool
names_differ [] = true
names_differ (name ∷ names) = not (list_any (same_name name) names) && names_differ names

pub record FitsReset (state : State) (names : List (List ℕ)) : Type 0 where
  pub defined : are_defined state names ≡ true
  pub differ : names_differ names ≡ true

-- ---- a base

-- one cursor a flow, of the form of its origin, and no version that its source has not reached
abbrev pub CursorsFit : State → List StoredFlow → List Cursor → Type 0
CursorsFit state [] [] = ⊤
CursorsFit state (flow ∷ flows) (cursor ∷ cursors) = MovesOn state flow.origin (begun_cursor flow.origin) cursor × CursorsFit state flows cursors
CursorsFit state flows cursors = ⊥

-- what a dataset of a store may be, beside the spelling: each change finds the rows that it removes, no version is past the
-- limit, and rows, cursors, counts and events are of the defined shape
pub record FitsStored (state : State) (dataset : Dataset) : Type 0 where
  pub follow : Follow dataset.table.rows dataset.table.changes
  pub limit : version_of dataset ≤ 2 ^ 62
  pub rows_fit : all_fit dataset.definition.columns dataset.table.rows ≡ true
  pub changes_fit : list_all (λ change. all_fit dataset.definition.columns change.added) dataset.table.changes ≡ true
  pub cursors : CursorsFit state dataset.definition.flows dataset.cursors
  pub one_each : length dataset.counts ≡ length dataset.definition.expectations
  pub within : counts_fit (map no_tally dataset.definition.expectations) dataset.counts ≡ true
  pub no_events : keeps_events dataset.definition.body ≡ false → dataset.events ≡ []
  pub events_fit : list_all (event_fits dataset.definition) dataset.events ≡ true

-- each dataset of a list is so beside the whole store
abbrev pub AllFitStored : State → State → Type 0
AllFitStored state [] = ⊤
AllFitStored state (dataset ∷ datasets) = FitsStored state dataset × AllFitStored state datasets

-- what a store may be: its names differ, and each dataset is of the defined shape
pub record IsStore (state : State) : Type 0 where
  pub distinct : are_distinct (definitions_of state) ≡ true
  pub each : AllFitStored state state

-- a base begins a log, and is what a store may be
pub record FitsBase (state base : State) : Type 0 where
  pub first : state ≡ []
  pub store : IsStore base

-- ---- payloads

-- all that makes a payload follow a state, but its spelling and the limit of versions
abbrev pub Fits : State → Payload → Type 0
Fits state (payload.Define fresh list) = FitsDefine state fresh list
Fits state (payload.Take batch) = IsSomeAnd (dataset_of state batch.table) (FitsTake state batch)
Fits state (payload.Refresh refresh) = IsSomeAnd (dataset_of state refresh.view) (FitsRefresh state refresh)
Fits state (payload.Reset names) = FitsReset state names
Fits state (payload.Base base) = FitsBase state (read_back base)

-- the dataset of a name, where there is one, has a version left below the limit, 2^62
abbrev pub HasVersions : State → List ℕ → Type 0
HasVersions state name = IfSome (dataset_of state name) (λ dataset. version_of dataset < 2 ^ 62)

-- the dataset of a name stands at the limit, and `full` is its name as it is defined
abbrev pub IsFullTable : State → List ℕ → List ℕ → Type 0
IsFullTable state name full = IsSomeAnd (dataset_of state name) (λ dataset. (full ≡ dataset.definition.name) × (2 ^ 62 ≤ version_of dataset))

-- each of these has a version left
abbrev pub AllHaveVersions : State → List (List ℕ) → Type 0
AllHaveVersions state [] = ⊤
AllHaveVersions state (name ∷ names) = HasVersions state name × AllHaveVersions state names

-- the first of these names whose dataset stands at the limit
abbrev pub IsFullOf : State → List (List ℕ) → List ℕ → Type 0
IsFullOf state [] full = ⊥
IsFullOf state (name ∷ names) full = IsFullTable state name full ⊎ (HasVersions state name × IsFullOf state names full)

-- each dataset to which the payload adds a version stands below the limit
abbrev pub WithinVersions : State → Payload → Type 0
WithinVersions state (payload.Define fresh list) = ⊤
WithinVersions state (payload.Take batch) = HasVersions state batch.table
WithinVersions state (payload.Refresh refresh) = HasVersions state refresh.view
WithinVersions state (payload.Reset names) = AllHaveVersions state names
WithinVersions state (payload.Base base) = ⊤

-- the name of a dataset at the limit to which the payload would add a version
abbrev pub IsAtLimit : State → Payload → List ℕ → Type 0
IsAtLimit state (payload.Define fresh list) name = ⊥
IsAtLimit state (payload.Take batch) name = IsFullTable state batch.table name
IsAtLimit state (payload.Refresh refresh) name = IsFullTable state refresh.view name
IsAtLimit state (payload.Reset names) name = IsFullOf state names name
IsAtLimit state (payload.Base base) name = ⊥

-- a payload follows a state
pub record MayFollow (state : State) (payload : Payload) : Type 0 where
  pub spelled : HasSpelling payload
  pub fits : Fits state payload
  pub versions : WithinVersions state payload
