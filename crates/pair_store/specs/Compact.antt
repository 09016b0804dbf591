-- What a compaction answers.
use Rattle.std.specs.Prelude.{◌≡◌, ◌≢◌, ◌⊎◌, ℕ, ◌+◌, ◌-◌, ◌^◌, ◌<◌, ◌≤◌, List, Some, None, Result, Ok, Err}
use Rattle.disk_model.specs.Faults.{Rose}
use Rattle.commit_payloads.specs.declared.payload.Payload.{Payload}
use Rattle.commit_payloads.specs.declared.payload.Payload.TheVariants as payload
use Rattle.commit_payloads.specs.Payloads.{spelled_payload, HasSpelling}
use Rattle.log_pair.specs.AtRest.{pair_epoch}
use Rattle.log_pair.specs.Switch.{switched_end}
use Rattle.state_model.specs.Dataset.{State}
use Rattle.state_model.specs.Saved.{compacted, saved}
use Rattle.pair_store.specs.Store.{store_state, store_pair, store_broken}
use Rattle.pair_store.specs.declared.store.Store.{Store}
use Rattle.pair_store.specs.declared.ends.CommitEnd.{CommitEnd}
use Rattle.pair_store.specs.declared.ends.CommitEnd.TheVariants.{Failed, Full, VersionFull, EpochFull, Memory}

-- the base that a store folds to
abbrev pub base_of : State → Payload
base_of state = payload.Base (saved (compacted state))

-- the body that says it
abbrev pub base_body : State → List ℕ
base_body state = spelled_payload (base_of state)

-- the folded store, and the record of its base
pub record IsFolded (state : State) (framed : List ℕ) (anew : State) : Type 0 where
  pub spelled : HasSpelling (base_of state)
  pub record_is : framed ≡ base_body state
  pub folded : anew ≡ compacted state

-- where the new log would end, behind its closed gate
abbrev pub compacted_end : Store → ℕ
compacted_end store = switched_end (store_pair store) (base_body (store_state store))

-- The store can be compacted: it is whole, there is a next epoch, and the new log has room.
pub record MayCompact (store : Store) (room : ℕ) : Type 0 where
  pub whole : store_broken store ≡ None
  pub epochs : pair_epoch (store_pair store) ≢ 2 ^ 64 - 1
  pub short : compacted_end store ≤ room

-- each answer and its cause, where the disk has this room and had and has counted so many faults
abbrev pub CompactAnswers : Store → ℕ → ℕ → ℕ → Result ℕ CommitEnd → Type 0
CompactAnswers store room before now (Ok epoch) = MayCompact store room × (now ≡ before) × (epoch ≡ pair_epoch (store_pair store) + 1)
CompactAnswers store room before now (Err (Failed count)) = (store_broken store ≡ Some count) ⊎ (MayCompact store room × Rose before now × (count ≡ now))
CompactAnswers store room before now (Err (Full end free)) =
    (store_broken store ≡ None) × (pair_epoch (store_pair store) ≢ 2 ^ 64 - 1) × (room < end) × (end ≡ compacted_end store) × (free ≡ room)
CompactAnswers store room before now (Err (VersionFull name)) = ⊥
CompactAnswers store room before now (Err (EpochFull epoch)) = (store_broken store ≡ None) × (pair_epoch (store_pair store) ≡ 2 ^ 64 - 1) × (epoch ≡ pair_epoch (store_pair store))
CompactAnswers store room before now (Err Memory) = store_broken store ≡ None
