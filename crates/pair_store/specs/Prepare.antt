-- A payload taken in memory before its record is written.
use Rattle.std.specs.Prelude.{◌≡◌, ℕ, List, Result, Ok, Err}
use Rattle.commit_payloads.specs.declared.payload.Payload.{Payload}
use Rattle.commit_payloads.specs.Payloads.{spelled_payload}
use Rattle.state_model.specs.After.{after_payload}
use Rattle.state_model.specs.Dataset.{State}
use Rattle.state_model.specs.Follows.{MayFollow, IsAtLimit, WithinVersions}
use Rattle.store_tables.specs.declared.undo.Undo.{Undo}
use Rattle.store_tables.specs.Undo.{undone}
use Rattle.pair_store.specs.declared.ends.CommitEnd.{CommitEnd}
use Rattle.pair_store.specs.declared.ends.CommitEnd.TheVariants.{Failed, Full, VersionFull, EpochFull, Memory}

-- the payload is taken, its record is at hand, and it can be taken back
pub record IsPrepared (old new : State) (payload : Payload) (framed : List ℕ) (undo : Undo) : Type 0 where
  pub follows : MayFollow old payload
  pub taken : new ≡ after_payload old payload
  pub back : undone new undo ≡ old
  pub record_is : framed ≡ spelled_payload payload

-- the answers of what comes before the first call of the disk
abbrev pub VersionAnswers : {T : Type 0} → State → Payload → Result T CommitEnd → Type 0
VersionAnswers state payload (Ok done) = WithinVersions state payload
VersionAnswers state payload (Err (Failed count)) = ⊥
VersionAnswers state payload (Err (Full end room)) = ⊥
VersionAnswers state payload (Err (VersionFull name)) = IsAtLimit state payload name
VersionAnswers state payload (Err (EpochFull epoch)) = ⊥
VersionAnswers state payload (Err Memory) = Unit {0}
