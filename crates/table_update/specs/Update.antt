-- How an update may end, and which payloads it commits.
use Rattle.std.specs.Prelude.{◌≡◌, ◌⊎◌, ℕ, ◌<◌, ◌≤◌, List, [], ◌∷◌, Bool, true, false, not, ◌&&◌, Option, Some, None, find, bytes_eq}
use Rattle.value_core.specs.declared.cursor.FilePlace.{FilePlace}
use Rattle.value_core.specs.NameFold.{same_name}
use Rattle.landing_core.specs.declared.landing.LandingFile.{LandingFile}
use Rattle.commit_records.specs.declared.definition.Definition.{Definition}
use Rattle.commit_records.specs.declared.payload.Payload.{Payload}
use Rattle.store_state.specs.State.{Dataset, State, empty_state, after_payload, definitions_of}
use Rattle.store_core.specs.Reach.{EndsAt}
use Rattle.store_core.specs.State.{HasState, IsBegun, IsForeign, IsRefusedAt}
use Rattle.store_core.specs.declared.refusal.StoreRefusal.{StoreRefusal}
use Rattle.store_core.specs.declared.refusal.StoreRefusal.TheVariants as store
use Rattle.table_update.specs.declared.end.UpdateEnd.{UpdateEnd}
use Rattle.table_update.specs.declared.end.UpdateEnd.TheVariants.{LoadFailed, Foreign, Damaged, Removed, Changed, Unfit, Full, CommitFailed, Current, Completed, Memory}
use Rattle.table_update.specs.declared.table.AppendTable.{AppendTable}
use Rattle.table_update.specs.Flow.{behind, HasRoom, IsPastRoom, FlowEnds}
use Rattle.table_update.specs.Table.{define, HoldsTable, IsDefinedBy}

-- what an update finds: the bytes of the store's file, how long that file may get, and the landing files
pub record Found : Type 0 where
  pub bytes : List ℕ
  pub room : ℕ
  pub landing : List LandingFile

-- ---- the load

-- the load is refused
abbrev pub LoadEnds : Found → UpdateEnd → Type 0
LoadEnds found LoadFailed = Unit {0}
LoadEnds found (Foreign len) = IsForeign len found.bytes
LoadEnds found (Damaged at) = IsRefusedAt at found.bytes
LoadEnds found (Full end limit) = IsBegun found.bytes × (found.room < 18) × (end ≡ 18) × (limit ≡ found.room)
LoadEnds found Memory = Unit {0}
LoadEnds found end = ⊥

-- why the store was not loaded, as the end of an update
abbrev pub end_of_load : StoreRefusal → UpdateEnd
end_of_load (store.Foreign side len) = Foreign len
end_of_load (store.Damaged side at) = Damaged at
end_of_load (store.Full end room) = Full end room
end_of_load store.Failed = LoadFailed
end_of_load store.Memory = Memory

-- the store's file is refused: it is no store's, or it is damaged
abbrev pub IsStoreRefused : UpdateEnd → Type 0
IsStoreRefused (Foreign len) = Unit {0}
IsStoreRefused (Damaged at) = Unit {0}
IsStoreRefused end = ⊥

-- the store is loaded: it has this state, and its next record's gate is at this place
pub record Loaded (found : Found) (state : State) (at : ℕ) : Type 0 where
  pub is : HasState found.bytes state
  pub ends : EndsAt at found.bytes
  pub room : IsBegun found.bytes → 18 ≤ found.room

-- ---- the stored definitions

-- a stored definition is the table's by its name and its text
abbrev pub is_kept : AppendTable → Definition → Bool
is_kept table stored = same_name stored.name table.name && bytes_eq stored.text table.text

-- the first of these definitions that isn't
abbrev pub first_other_in : AppendTable → List Definition → Option Definition
first_other_in table definitions = find (λ stored. not (is_kept table stored)) definitions

abbrev pub first_other : AppendTable → State → Option Definition
first_other table state = first_other_in table (definitions_of state)

-- why such a definition is refused: one of another name is removed, and one of the table's name is changed
abbrev pub IsRefusalOf : AppendTable → Definition → UpdateEnd → Type 0
IsRefusalOf table other (Removed name) = (same_name other.name table.name ≡ false) × (name ≡ other.name)
IsRefusalOf table other (Changed name stored given) =
    (same_name other.name table.name ≡ true) × (name ≡ other.name) × (stored ≡ other.text) × (given ≡ table.text)
IsRefusalOf table other end = ⊥

-- the first such definition is refused
abbrev pub IsOther : AppendTable → State → UpdateEnd → Type 0
IsOther table state end = (other : Definition) × (first_other table state ≡ Some other) × IsRefusalOf table other end

-- the store has no dataset yet, or the table as it is given
abbrev pub MayRun : AppendTable → State → Type 0
MayRun table state = (state ≡ []) ⊎ IsDefinedBy table state

-- the names and texts are the table's, but other parts aren't
pub record IsUnfit (table : AppendTable) (state : State) (name : List ℕ) : Type 0 where
  pub none : first_other table state ≡ None
  pub unfit : MayRun table state → ⊥
  pub name_is : name ≡ table.name

-- the stored definitions are refused
abbrev pub JudgeEnds : AppendTable → State → UpdateEnd → Type 0
JudgeEnds table state (Removed name) = IsOther table state (Removed name)
JudgeEnds table state (Changed name stored given) = IsOther table state (Changed name stored given)
JudgeEnds table state (Unfit name) = IsUnfit table state name
JudgeEnds table state Memory = Unit {0}
JudgeEnds table state end = ⊥

-- The pipeline has no table: the first stored definition is removed, and where there is none there is nothing to do.
abbrev pub NoTableEnds : State → UpdateEnd → Type 0
NoTableEnds state (Removed name) = (first : Definition) × (more : List Definition) × (definitions_of state ≡ first ∷ more) × (name ≡ first.name)
NoTableEnds state Current = state ≡ []
NoTableEnds state Memory = Unit {0}
NoTableEnds state end = ⊥

-- ---- the commits

-- how it ends where the table isn't there and its definition isn't acknowledged
abbrev pub DefineEnds : AppendTable → ℕ → ℕ → List Payload → List Payload → UpdateEnd → Type 0
DefineEnds table room at acked tried (Full end limit) = IsPastRoom room at (define table) end limit × (acked ≡ []) × (tried ≡ [])
DefineEnds table room at acked tried CommitFailed = HasRoom room at (define table) × (acked ≡ []) × (tried ≡ define table ∷ [])
DefineEnds table room at acked tried Memory = (acked ≡ []) × (tried ≡ [])
DefineEnds table room at acked tried end = ⊥

-- the table stands in this state, and its flow runs from there
pub record Flows (table : AppendTable) (files : List LandingFile) (room at : ℕ) (state : State) (before acked tried : List Payload) (end : UpdateEnd) : Type 0 where
  pub dataset : Dataset
  pub places : List FilePlace
  pub holds : HoldsTable table state dataset places
  pub ends : FlowEnds table files room at dataset places before acked tried end

-- The table is defined first where the store has no dataset, and then its flow runs.
abbrev pub Runs : AppendTable → List LandingFile → ℕ → ℕ → State → List Payload → List Payload → UpdateEnd → Type 0
Runs table files room at state acked tried end =
    ((state ≡ []) × DefineEnds table room at acked tried end)
    ⊎ ((state ≡ []) × HasRoom room at (define table) × Flows table files room (behind at (define table)) (after_payload empty_state (define table)) (define table ∷ []) acked tried end)
    ⊎ (IsDefinedBy table state × Flows table files room at state [] acked tried end)

-- ---- the update

-- how it ends once the store is loaded, for a pipeline of this table or of none
abbrev pub LoadedEnds : Option AppendTable → List LandingFile → ℕ → State → ℕ → List Payload → List Payload → UpdateEnd → Type 0
LoadedEnds None files room state at acked tried end = NoTableEnds state end × (acked ≡ []) × (tried ≡ [])
LoadedEnds (Some table) files room state at acked tried end =
    (JudgeEnds table state end × (acked ≡ []) × (tried ≡ [])) ⊎ Runs table files room at state acked tried end

-- How an update ends, and whether the store was loaded: which payloads were acknowledged, and which were tried.
abbrev pub Updates : Option AppendTable → Found → Bool → List Payload → List Payload → UpdateEnd → Type 0
Updates plan found false acked tried end = LoadEnds found end × (acked ≡ []) × (tried ≡ [])
Updates plan found true acked tried end = (state : State) × (at : ℕ) × Loaded found state at × LoadedEnds plan found.landing found.room state at acked tried end

-- it succeeded
abbrev pub IsSuccess : UpdateEnd → Type 0
IsSuccess Current = Unit {0}
IsSuccess (Completed read version) = Unit {0}
IsSuccess end = ⊥

-- where the next record's gate stands behind those of these payloads
abbrev pub end_after : ℕ → List Payload → ℕ
end_after at [] = at
end_after at (payload ∷ payloads) = end_after (behind at payload) payloads
