-- What a crash leaves of a store while payloads are committed to it, one after the other.
use Rattle.std.specs.Prelude.{◌≡◌, ◌⊎◌, ◌≤◌, ℕ, List, [], ◌∷◌, ◌++◌, Result, Ok, Err}
use Rattle.disk_model.specs.Disk.{TwoFiles, DiskState, Follows, KeepsHonesty}
use Rattle.disk_model.specs.Moments.{LeavesOnly}
use Rattle.commit_payloads.specs.declared.payload.Payload.{Payload}
use Rattle.pair_state.specs.PairState.{HasPairState, KeepsPairState}
use Rattle.pair_store.specs.declared.ends.CommitEnd.{CommitEnd}
use Rattle.pair_store.specs.declared.ends.CommitEnd.TheVariants.{Failed}
use Rattle.state_model.specs.After.{state_from}
use Rattle.state_model.specs.Dataset.{State}

-- whatever a crash leaves of these files has this state
abbrev pub HasStateOnDisk : State → DiskState → Type 0
HasStateOnDisk state disk = (files : TwoFiles) → disk.may_leave files → HasPairState files state

-- these payloads are the first of those
abbrev pub IsFrontOf : List Payload → List Payload → Type 0
IsFrontOf front all = (behind : List Payload) × (all ≡ front ++ behind)

-- the files have the state with a front of these payloads
pub record HasFront (state : State) (tried : List Payload) (files : TwoFiles) : Type 0 where
  pub front : List Payload
  pub behind : List Payload
  pub parts : tried ≡ front ++ behind
  pub has : HasPairState files (state_from state front)

-- Payloads were tried one after the other on a store of this state, and those in front were acknowledged. Afterwards a crash
-- leaves the state with all that were acknowledged, or with all that were tried, so that no acknowledged one is lost; and at each
-- moment on the way it leaves the state with a front of them.
pub record Trail (timed : Type 0) (state : State) (acked tried : List Payload) (old new : DiskState) : Type 0 where
  pub front : IsFrontOf acked tried
  pub settled : (files : TwoFiles) → new.may_leave files → HasPairState files (state_from state acked) ⊎ HasPairState files (state_from state tried)
  pub each : timed → LeavesOnly (λ calls was files. HasFront state tried files) old new
  pub honesty : KeepsHonesty old new

-- ---- one commit

-- the payload, if its commit was acknowledged
abbrev pub acked_by : {T : Type 0} → Payload → Result T CommitEnd → List Payload
acked_by payload (Ok done) = payload ∷ []
acked_by payload (Err end) = []

-- the payload, if its commit came as far as the disk
abbrev pub tried_by : {T : Type 0} → Payload → Result T CommitEnd → List Payload
tried_by payload (Ok done) = payload ∷ []
tried_by payload (Err (Failed count)) = payload ∷ []
tried_by payload (Err end) = []

-- ---- behind a load

-- the files have the state with a front of these payloads or, until both are synced, which is by the load's fourth call, that of
-- what a crash might have left before
abbrev pub HasFrontOrOlder : State → List Payload → ℕ → TwoFiles → TwoFiles → Type 0
HasFrontOrOlder state tried calls was files = HasFront state tried files ⊎ ((calls ≤ 3) × KeepsPairState was files)

-- A command began with a load of a store of this state, and went on as a trail from it; but at first a crash may also leave an
-- older state.
pub record LoadedTrail (timed : Type 0) (state : State) (acked tried : List Payload) (old new : DiskState) : Type 0 where
  pub front : IsFrontOf acked tried
  pub settled : (files : TwoFiles) → new.may_leave files → HasPairState files (state_from state acked) ⊎ HasPairState files (state_from state tried)
  pub each : timed → LeavesOnly (HasFrontOrOlder state tried) old new
  pub honesty : KeepsHonesty old new

-- A command loaded no store: it made no call of the disk, or its load was refused or failed. Whatever a crash leaves, afterwards
-- and at each moment, has the state of what one might have left before.
pub record UnloadedTrail (timed : Type 0) (old new : DiskState) : Type 0 where
  pub settled : Follows KeepsPairState old.may_leave new.may_leave
  pub each : timed → LeavesOnly (λ _. KeepsPairState) old new
  pub honesty : KeepsHonesty old new
