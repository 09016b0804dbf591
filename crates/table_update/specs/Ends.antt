-- Updates that nothing outside stops: what they come to.
use Rattle.std.specs.Prelude.{◌≡◌, ◌≢◌, ◌⊎◌, ◌↔◌, ℕ, List, [], Option, Some, None}
use Rattle.value_core.specs.declared.cursor.FilePlace.{FilePlace}
use Rattle.landing_core.specs.declared.landing.LandingFile.{LandingFile}
use Rattle.store_state.specs.State.{Dataset, State, empty_state, after_payload, definitions_of}
use Rattle.store_core.specs.Reach.{EndsAt}
use Rattle.store_core.specs.State.{HasState, IsBegun}
use Rattle.table_update.specs.declared.end.UpdateEnd.{UpdateEnd}
use Rattle.table_update.specs.declared.end.UpdateEnd.TheVariants.{LoadFailed, CommitFailed, LandingFailed, Memory}
use Rattle.table_update.specs.declared.table.AppendTable.{AppendTable}
use Rattle.table_update.specs.Flow.{batch, behind, HasRoom, HasVersion, HasNews, shrunk}
use Rattle.table_update.specs.Table.{define, HoldsTable}
use Rattle.table_update.specs.Update.{Found, Loaded}

-- no device failed, and there was memory
abbrev pub IsOwn : UpdateEnd → Type 0
IsOwn LoadFailed = ⊥
IsOwn CommitFailed = ⊥
IsOwn LandingFailed = ⊥
IsOwn Memory = ⊥
IsOwn end = Unit {0}

-- two files that a store takes for the same: each loads as the other does, and goes on at the same place
pub record Alike (bytes other : List ℕ) : Type 0 where
  pub begun : IsBegun bytes ↔ IsBegun other
  pub state : State
  pub at : ℕ
  pub is : HasState bytes state
  pub other_is : HasState other state
  pub ends : EndsAt at bytes
  pub other_ends : EndsAt at other

-- ---- nothing to refuse

-- what is new, if anything is, can be taken
pub record MayFlow (table : AppendTable) (files : List LandingFile) (room at : ℕ) (state : State) : Type 0 where
  pub dataset : Dataset
  pub places : List FilePlace
  pub holds : HoldsTable table state dataset places
  pub none_shrank : shrunk table files places ≡ None
  pub version : HasNews table files places → HasVersion dataset
  pub room_for : HasNews table files places → HasRoom room at (batch table files places)

-- the store's definition is the table's, or it has none and there is room for it; no file is shorter than how far it was
-- read; and what is new has room. Without a table the store has no definition.
abbrev pub MayUpdate : Option AppendTable → Found → State → ℕ → Type 0
MayUpdate None found state at = state ≡ []
MayUpdate (Some table) found state at =
    ((state ≡ []) × HasRoom found.room at (define table) × MayFlow table found.landing found.room (behind at (define table)) (after_payload empty_state (define table)))
    ⊎ ((definitions_of state ≢ []) × MayFlow table found.landing found.room at state)

-- the store loads, and nothing in it and in the landing files is refused
pub record NothingRefused (plan : Option AppendTable) (found : Found) : Type 0 where
  pub state : State
  pub at : ℕ
  pub loaded : Loaded found state at
  pub may_update : MayUpdate plan found state at
