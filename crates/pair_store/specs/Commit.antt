-- What a commit answers.
use Rattle.std.specs.Prelude.{◌≡◌, ◌⊎◌, ℕ, ◌+◌, ◌<◌, ◌≤◌, length, Option, Some, None, Result, Ok, Err}
use Rattle.disk_model.specs.Faults.{Rose}
use Rattle.commit_payloads.specs.declared.payload.Payload.{Payload}
use Rattle.commit_payloads.specs.Payloads.{spelled_payload}
use Rattle.log_pair.specs.AtRest.{pair_end}
use Rattle.state_model.specs.Follows.{IsAtLimit, WithinVersions}
use Rattle.pair_store.specs.Store.{store_state, store_pair, store_broken}
use Rattle.pair_store.specs.declared.store.Store.{Store}
use Rattle.pair_store.specs.declared.ends.CommitEnd.{CommitEnd}
use Rattle.pair_store.specs.declared.ends.CommitEnd.TheVariants.{Failed, Full, VersionFull, EpochFull, Memory}

-- where the log would end behind the payload's record and the closed gate
abbrev pub appended_end : Store → Payload → ℕ
appended_end store payload = pair_end (store_pair store) + 10 + length (spelled_payload payload)

-- The payload can be committed: the store is whole, no version would pass its limit, and the record has room.
pub record MayCommit (store : Store) (payload : Payload) (room : ℕ) : Type 0 where
  pub whole : store_broken store ≡ None
  pub versions : WithinVersions (store_state store) payload
  pub short : appended_end store payload ≤ room

-- each answer and its cause, where the disk has this room and had and has counted so many faults
abbrev pub PayloadAnswers : Store → Payload → ℕ → ℕ → ℕ → Result (Unit {0}) CommitEnd → Type 0
PayloadAnswers store payload room before now (Ok done) = MayCommit store payload room × (now ≡ before)
PayloadAnswers store payload room before now (Err (Failed count)) = (store_broken store ≡ Some count) ⊎ (MayCommit store payload room × Rose before now × (count ≡ now))
PayloadAnswers store payload room before now (Err (Full end free)) =
    (store_broken store ≡ None) × WithinVersions (store_state store) payload × (room < end) × (end ≡ appended_end store payload) × (free ≡ room)
PayloadAnswers store payload room before now (Err (VersionFull name)) = (store_broken store ≡ None) × IsAtLimit (store_state store) payload name
PayloadAnswers store payload room before now (Err (EpochFull epoch)) = ⊥
PayloadAnswers store payload room before now (Err Memory) = store_broken store ≡ None

-- a store is broken exactly by a failure, and holds its count
abbrev pub broken_by : {T : Type 0} → Result T CommitEnd → Option ℕ
broken_by (Ok done) = None
broken_by (Err (Failed count)) = Some count
broken_by (Err (Full end free)) = None
broken_by (Err (VersionFull name)) = None
broken_by (Err (EpochFull epoch)) = None
broken_by (Err Memory) = None
