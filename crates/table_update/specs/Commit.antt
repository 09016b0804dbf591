-- How a commit of an update ends, and what one commit or more leave of the store.
use Rattle.std.specs.Prelude.{◌≡◌, ◌⊎◌, ℕ, List, [], ◌∷◌, ◌++◌, Option, Result, Ok, Err}
use Rattle.disk_model.specs.declared.disk.Side.TheVariants.{Left}
use Rattle.disk_model.specs.Disk.{DiskState, Alone, Follows}
use Rattle.disk_model.specs.Moments.{LeavesOnly}
use Rattle.commit_records.specs.declared.payload.Payload.{Payload}
use Rattle.landing_core.specs.declared.landing.LandingFile.{LandingFile}
use Rattle.store_state.specs.State as states
use Rattle.store_state.specs.State.{State, WithinVersions, state_from}
use Rattle.store_core.specs.State.{HasState}
use Rattle.store_core.specs.Store.{store_state, store_log, IsAsLeft}
use Rattle.store_core.specs.declared.commit.CommitEnd.{CommitEnd}
use Rattle.store_core.specs.declared.commit.CommitEnd.TheVariants as store
use Rattle.store_core.specs.declared.store.Store.{Store}
use Rattle.commit_gate.specs.AtRest.{log_end}
use Rattle.table_update.specs.declared.end.UpdateEnd.{UpdateEnd}
use Rattle.table_update.specs.declared.end.UpdateEnd.TheVariants.{LoadFailed, LandingFailed, Removed, Full, VersionFull, CommitFailed, Current, Memory}
use Rattle.table_update.specs.declared.table.AppendTable.{AppendTable}
use Rattle.table_update.specs.Flow.{HasRoom, IsPastRoom}
use Rattle.table_update.specs.Update.{Flows, LoadedEnds, IsSuccess, end_after}

-- no commit answers that the number of its log is the last one
abbrev pub IsCommitEnd : CommitEnd → Type 0
IsCommitEnd (store.EpochFull epoch) = ⊥
IsCommitEnd end = Unit {0}

-- a commit's error as the end of an update
abbrev pub end_of_commit : CommitEnd → UpdateEnd
end_of_commit (store.Failed count) = CommitFailed
end_of_commit (store.Full end room) = Full end room
end_of_commit (store.VersionFull name) = VersionFull name
end_of_commit (store.EpochFull epoch) = Memory
end_of_commit store.Memory = Memory

-- each answer of a commit and its cause, where the next record's gate is at this place
abbrev pub CommitEnds : State → ℕ → ℕ → Payload → Result (Unit {0}) UpdateEnd → Type 0
CommitEnds state room at payload (Ok done) = WithinVersions state payload × HasRoom room at payload
CommitEnds state room at payload (Err CommitFailed) = WithinVersions state payload × HasRoom room at payload
CommitEnds state room at payload (Err (Full end limit)) = WithinVersions state payload × IsPastRoom room at payload end limit
CommitEnds state room at payload (Err (VersionFull name)) = states.IsAtLimit state payload name
CommitEnds state room at payload (Err Memory) = Unit {0}
CommitEnds state room at payload (Err end) = ⊥

-- an image has this state with a front of the payloads
pub record HasFront (state : State) (tried : List Payload) (image : List ℕ) : Type 0 where
  pub front : List Payload
  pub behind : List Payload
  pub parts : tried ≡ front ++ behind
  pub has : HasState image (state_from state front)

-- What a crash leaves of a store in this state, of which payloads were tried and acknowledged: once the call has ended, the
-- state with those that were acknowledged or with all, and at each moment the state with a front.
pub record Stores (timed : Type 0) (state : State) (acked tried : List Payload) (old new : DiskState) : Type 0 where
  pub settled : Follows (Alone Left (λ _ image. HasState image (state_from state acked) ⊎ HasState image (state_from state tried))) old.may_leave new.may_leave
  pub each : timed → LeavesOnly (λ _. Alone Left (λ _ image. HasFront state tried image)) old new

-- the payloads that one commit acknowledged
abbrev pub acked_by : Payload → Result (Unit {0}) UpdateEnd → List Payload
acked_by payload (Ok done) = payload ∷ []
acked_by payload (Err end) = []

-- those that it tried: it did so where it succeeded or the disk failed
abbrev pub tried_by : Payload → Result (Unit {0}) UpdateEnd → List Payload
tried_by payload (Ok done) = payload ∷ []
tried_by payload (Err CommitFailed) = payload ∷ []
tried_by payload (Err end) = []

-- the store has this state, the next record's gate is at this place, and the disk is as the store left it
pub record IsLeft (store : Store) (state : State) (at : ℕ) (disk : DiskState) : Type 0 where
  pub as_left : IsAsLeft store disk
  pub state_is : store_state store ≡ state
  pub ends : log_end (store_log store) ≡ at

-- the flow has run from this state
pub record FlowRan (timed : Type 0) (table : AppendTable) (files : List LandingFile) (room at : ℕ) (state : State) (end : UpdateEnd) (store : Store) (old new : DiskState) : Type 0 where
  pub acked : List Payload
  pub tried : List Payload
  pub flows : Flows table files room at state [] acked tried end
  pub stores : Stores timed state acked tried old new
  pub left : IsSuccess end → IsLeft store (state_from state tried) (end_after at tried) new

-- an update of this table, or of none, has run from this state
pub record UpdateRan (timed : Type 0) (plan : Option AppendTable) (files : List LandingFile) (room at : ℕ) (state : State) (end : UpdateEnd) (store : Store) (old new : DiskState) : Type 0 where
  pub acked : List Payload
  pub tried : List Payload
  pub ends : LoadedEnds plan files room state at acked tried end
  pub stores : Stores timed state acked tried old new
  pub left : IsSuccess end → IsLeft store (state_from state tried) (end_after at tried) new

-- what an update without a table comes to
abbrev pub IsOfNothing : UpdateEnd → Type 0
IsOfNothing (Removed name) = Unit {0}
IsOfNothing Current = Unit {0}
IsOfNothing Memory = Unit {0}
IsOfNothing end = ⊥

-- what a run from a loaded store doesn't come to
abbrev pub IsOfRun : UpdateEnd → Type 0
IsOfRun LoadFailed = ⊥
IsOfRun end = Unit {0}

-- and a take of what was read neither
abbrev pub IsOfTake : UpdateEnd → Type 0
IsOfTake LoadFailed = ⊥
IsOfTake LandingFailed = ⊥
IsOfTake end = Unit {0}
