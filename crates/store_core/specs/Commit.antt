-- What a commit answers, and what it does to the disk.
use Rattle.std.specs.Prelude.{◌≡◌, ◌⊎◌, ℕ, ◌+◌, ◌<◌, ◌≤◌, length, Option, Some, None, Result, Ok, Err, OnOk}
use Rattle.disk_model.specs.declared.disk.Side.TheVariants.{Left, Right}
use Rattle.disk_model.specs.Disk.{TwoFiles, DiskState, Alone, Follows, KeepsHonesty, file}
use Rattle.disk_model.specs.Faults.{Rose}
use Rattle.disk_model.specs.Moments.{LeavesOnly}
use Rattle.commit_gate.specs.AtRest.{log_end}
use Rattle.commit_records.specs.declared.payload.Payload.{Payload}
use Rattle.commit_records.specs.Payloads.{spelled_payload}
use Rattle.store_state.specs.State.{State, after_payload, IsAtLimit, WithinVersions}
use Rattle.store_core.specs.State.{HasState, HasStateOrNext}
use Rattle.store_core.specs.Store.{store_state, store_log, store_broken}
use Rattle.store_core.specs.declared.store.Store.{Store}
use Rattle.store_core.specs.declared.commit.CommitEnd.{CommitEnd}
use Rattle.store_core.specs.declared.commit.CommitEnd.TheVariants.{Failed, Full, VersionFull, EpochFull, Memory}

-- where the file would end behind the payload's record and the closed gate
abbrev pub commit_end : Store → Payload → ℕ
commit_end store payload = log_end (store_log store) + 10 + length (spelled_payload payload)

-- The payload can be committed: the store is whole, no version would pass its limit, and the record has room.
pub record HasPlace (store : Store) (payload : Payload) (room : ℕ) : Type 0 where
  pub whole : store_broken store ≡ None
  pub versions : WithinVersions (store_state store) payload
  pub short : commit_end store payload ≤ room

-- each answer and its cause, where the disk has this room and had and has counted so many faults
abbrev pub CommitAnswers : Store → Payload → ℕ → ℕ → ℕ → Result (Unit {0}) CommitEnd → Type 0
CommitAnswers store payload room before now (Ok done) = HasPlace store payload room × (now ≡ before)
CommitAnswers store payload room before now (Err (Failed count)) = (store_broken store ≡ Some count) ⊎ (HasPlace store payload room × Rose before now × (count ≡ now))
CommitAnswers store payload room before now (Err (Full end free)) =
    (store_broken store ≡ None) × WithinVersions (store_state store) payload × (room < end) × (end ≡ commit_end store payload) × (free ≡ room)
CommitAnswers store payload room before now (Err (VersionFull name)) = (store_broken store ≡ None) × IsAtLimit (store_state store) payload name
CommitAnswers store payload room before now (Err (EpochFull epoch)) = ⊥
CommitAnswers store payload room before now (Err Memory) = store_broken store ≡ None

-- a store is broken exactly by a failure, and holds its count
abbrev pub broken_by : Result (Unit {0}) CommitEnd → Option ℕ
broken_by (Ok done) = None
broken_by (Err (Failed count)) = Some count
broken_by (Err (Full end free)) = None
broken_by (Err (VersionFull name)) = None
broken_by (Err (EpochFull epoch)) = None
broken_by (Err Memory) = None

-- what a commit does to the two files
pub record Commits (state : State) (payload : Payload) (result : Result (Unit {0}) CommitEnd) (old new : DiskState) : Type 0 where
  -- once it answered `Ok`, whatever a crash leaves has the state with the payload
  pub acknowledged : OnOk result ((files : TwoFiles) → new.may_leave files → HasState (file Left files) (after_payload state payload))
  -- what a crash leaves afterwards, an error or not: the state before, or with the payload
  pub crash : Follows (Alone Left (λ _ bytes. HasStateOrNext (Unit {0}) state payload bytes)) old.may_leave new.may_leave
  pub other_file : file Right new.now ≡ file Right old.now
  pub honesty : KeepsHonesty old new

-- Up to the write of the gate, the third call, a crash leaves the state before. Then it leaves that, or the one with
-- the payload.
pub record CommitsByGate (state : State) (payload : Payload) (result : Result (Unit {0}) CommitEnd) (old new : DiskState) : Type 0 where
  pub leaves : LeavesOnly (λ calls. Alone Left (λ _ bytes. HasStateOrNext (2 < calls) state payload bytes)) old new
  pub calls : OnOk result (new.moment ≡ old.moment + 4)
