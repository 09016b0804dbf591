-- When a payload follows a state.
use Rattle.std.specs.Prelude.{◌≡◌, ⊤, ℕ, ◌+◌, ◌<◌, ◌≤◌, ◌^◌, nat_lt, nat_le, List, [], ◌∷◌, Option, Some, None, is_none, IsSomeAnd, IfSome, Bool, true, false, ◌&&◌, length, map, take, find, bytes_eq}
use Rattle.std.specs.List.{list_all, list_any}
use Rattle.value_core.specs.declared.change.Tally.{Tally}
use Rattle.value_core.specs.declared.cursor.Cursor.{Cursor}
use Rattle.value_core.specs.declared.cursor.Cursor.TheVariants.{Files, At, Never}
use Rattle.value_core.specs.declared.cursor.FilePlace.{FilePlace}
use Rattle.value_core.specs.declared.schema.Column.{Column}
use Rattle.value_core.specs.declared.value.Kind.{Kind}
use Rattle.value_core.specs.Fits.{row_fits}
use Rattle.value_core.specs.Order.{Row}
use Rattle.commit_records.specs.declared.definition.Definition.{Definition}
use Rattle.commit_records.specs.declared.definition.StoredBody.{StoredBody}
use Rattle.commit_records.specs.declared.definition.StoredBody.TheVariants.{Append, Scd1, Scd2, View}
use Rattle.commit_records.specs.declared.definition.StoredFlow.{StoredFlow}
use Rattle.commit_records.specs.declared.definition.StoredOrigin.{StoredOrigin}
use Rattle.commit_records.specs.declared.definition.StoredOrigin.TheVariants.{Folder, Table}
use Rattle.commit_records.specs.declared.payload.Payload.{Payload}
use Rattle.commit_records.specs.declared.payload.Payload.TheVariants as payload
use Rattle.commit_records.specs.declared.take.Take.{Take}
use Rattle.commit_records.specs.Payloads.{HasSpelling, IsWritable}
use Rattle.store_state.specs.Dataset.{Dataset, State, version_of, definitions_of, is_defined, dataset_of, flow_of, cursor_of}

-- ---- definitions

abbrev pub is_append_body : StoredBody → Bool
is_append_body Append = true
is_append_body Scd1 = false
is_append_body Scd2 = false
is_append_body View = false

-- an append table; its spelling has neither keys nor a sequence
abbrev pub is_append : Definition → Bool
is_append definition = is_append_body definition.body

abbrev pub all_append : List Definition → Bool
all_append list = list_all is_append list

-- no name is that of a later definition
abbrev pub are_distinct : List Definition → Bool
are_distinct [] = true
are_distinct (definition ∷ list) = is_none (find (is_defined definition.name) list) && are_distinct list

-- the definitions that are there come first, unchanged and in order, unless all begin anew
abbrev pub Keeps : State → Bool → List Definition → Type 0
Keeps state true list = ⊤
Keeps state false list = take (length state) list ≡ definitions_of state

pub record FitsDefine (state : State) (fresh : Bool) (list : List Definition) : Type 0 where
  pub append : all_append list ≡ true
  pub distinct : are_distinct list ≡ true
  pub kept : Keeps state fresh list

-- ---- how far a flow has read

-- a place of the same file, and not before the old one
abbrev pub keeps_place : FilePlace → FilePlace → Bool
keeps_place old new = bytes_eq new.file old.file && nat_le old.place new.place

abbrev pub is_kept : FilePlace → List FilePlace → Bool
is_kept old new = list_any (keeps_place old) new

-- each file is among the new places, and not before its old place
abbrev pub none_falls : List FilePlace → List FilePlace → Bool
none_falls [] new = true
none_falls (old ∷ places) new = is_kept old new && none_falls places new

-- the source is there, and has come to the version
abbrev pub IsReached : State → List ℕ → ℕ → Type 0
IsReached state source version = IsSomeAnd (dataset_of state source) (λ dataset. version ≤ version_of dataset)

-- places in files don't fall
abbrev pub FilesMove : Cursor → Cursor → Type 0
FilesMove (Files old) (Files new) = none_falls old new ≡ true
FilesMove old new = ⊥

-- a version doesn't fall, and its source has reached it
abbrev pub VersionMoves : State → List ℕ → Cursor → Cursor → Type 0
VersionMoves state source Never Never = ⊤
VersionMoves state source Never (At version) = IsReached state source version
VersionMoves state source (At old) (At version) = (old ≤ version) × IsReached state source version
VersionMoves state source old new = ⊥

-- a cursor has the form of its flow's origin, and doesn't fall
abbrev pub MovesOn : State → StoredOrigin → Cursor → Cursor → Type 0
MovesOn state (Folder folder) old new = FilesMove old new
MovesOn state (Table source) old new = VersionMoves state source old new

-- the flow is there, and its cursor moves on
abbrev pub FlowMoves : State → Option StoredFlow → Option Cursor → Cursor → Type 0
FlowMoves state None old new = ⊥
FlowMoves state (Some flow) None new = ⊥
FlowMoves state (Some flow) (Some old) new = MovesOn state flow.origin old new

-- ---- a batch

abbrev pub kind_of : Column → Kind
kind_of column = column.kind

-- a row has one value a column, NULL or of its kind
abbrev pub is_row_of : List Column → Row → Bool
is_row_of columns row = row_fits (map kind_of columns) row

abbrev pub all_fit : List Column → List Row → Bool
all_fit columns rows = list_all (is_row_of columns) rows

-- a count and a further one come to at most 2^63 - 1
abbrev pub is_within : ℕ → ℕ → Bool
is_within kept more = nat_lt (kept + more) (2 ^ 63)

abbrev pub tally_fits : Tally → Tally → Bool
tally_fits kept more = is_within kept.passed more.passed && is_within kept.failed more.failed

-- there is one further count for each count, and none passes its limit
abbrev pub counts_fit : List Tally → List Tally → Bool
counts_fit [] [] = true
counts_fit [] (tally ∷ more) = false
counts_fit (kept ∷ counts) [] = false
counts_fit (kept ∷ counts) (tally ∷ more) = tally_fits kept tally && counts_fit counts more

-- the rules of a batch that speak of its table alone
pub record FitsTable (batch : Take) (dataset : Dataset) : Type 0 where
  pub append : is_append dataset.definition ≡ true
  pub removes_none : batch.change.removed ≡ []
  pub no_events : batch.events ≡ []
  pub rows_fit : all_fit dataset.definition.columns batch.change.added ≡ true
  pub one_each : length batch.counts ≡ length dataset.definition.expectations
  pub within : counts_fit dataset.counts batch.counts ≡ true

pub record FitsTake (state : State) (batch : Take) (dataset : Dataset) : Type 0 where
  pub table : FitsTable batch dataset
  pub moves : FlowMoves state (flow_of dataset batch.flow) (cursor_of dataset batch.flow) batch.cursor

-- ---- payloads

-- all that makes a payload follow a state, but its spelling and the limit of versions
abbrev pub Fits : State → Payload → Type 0
Fits state (payload.Define fresh list) = FitsDefine state fresh list
Fits state (payload.Take batch) = IsSomeAnd (dataset_of state batch.table) (FitsTake state batch)
Fits state (payload.Refresh refresh) = ⊥
Fits state (payload.Reset names) = ⊥
Fits state (payload.Base base) = ⊥

-- the dataset of a name, where there is one, has a version left below the limit, 2^62
abbrev pub HasVersions : State → List ℕ → Type 0
HasVersions state name = IfSome (dataset_of state name) (λ dataset. version_of dataset < 2 ^ 62)

-- the dataset of a name stands at the limit, and `full` is its name as it is defined
abbrev pub IsFullTable : State → List ℕ → List ℕ → Type 0
IsFullTable state name full = IsSomeAnd (dataset_of state name) (λ dataset. (full ≡ dataset.definition.name) × (2 ^ 62 ≤ version_of dataset))

-- each dataset to which the payload adds a version stands below the limit
abbrev pub WithinVersions : State → Payload → Type 0
WithinVersions state (payload.Define fresh list) = ⊤
WithinVersions state (payload.Take batch) = HasVersions state batch.table
WithinVersions state (payload.Refresh refresh) = ⊤
WithinVersions state (payload.Reset names) = ⊤
WithinVersions state (payload.Base base) = ⊤

-- the name of a dataset at the limit to which the payload would add a version
abbrev pub IsAtLimit : State → Payload → List ℕ → Type 0
IsAtLimit state (payload.Define fresh list) name = ⊥
IsAtLimit state (payload.Take batch) name = IsFullTable state batch.table name
IsAtLimit state (payload.Refresh refresh) name = ⊥
IsAtLimit state (payload.Reset names) name = ⊥
IsAtLimit state (payload.Base base) name = ⊥

-- a payload that may be committed in this state, the limit of versions left aside
pub record IsNext (state : State) (payload : Payload) : Type 0 where
  pub form : IsWritable payload
  pub fits : Fits state payload

-- all that makes a payload follow a state
pub record MayFollow (state : State) (payload : Payload) : Type 0 where
  pub spelled : HasSpelling payload
  pub fits : Fits state payload
  pub versions : WithinVersions state payload
