-- The state that the bytes of a file stand for.
use Rattle.std.specs.Prelude.{◌≡◌, ◌⊎◌, ◌<◌, ◌≤◌, ℕ, List, [], ◌∷◌, ◌++◌, length}
use Rattle.commit_gate.specs.Log.{log_bytes, HasBodies, IsDead}
use Rattle.commit_gate.specs.Damage.{IsDamagedAt}
use Rattle.commit_records.specs.declared.payload.Payload.{Payload}
use Rattle.commit_records.specs.Payloads.{spelled_payload}
use Rattle.store_state.specs.State.{State, empty_state, after_payload, MayFollow}

-- from one state these bodies lead to another: each is the spelling of a payload that follows the state before it
abbrev pub LeadsTo : State → List (List ℕ) → State → Type 0
LeadsTo from [] to = to ≡ from
LeadsTo from (body ∷ bodies) to = (payload : Payload) × (body ≡ spelled_payload payload) × MayFollow from payload × LeadsTo (after_payload from payload) bodies to

-- a live log whose bodies lead to this state
pub record IsLogOf (state : State) (bytes : List ℕ) : Type 0 where
  pub epoch : ℕ
  pub bodies : List (List ℕ)
  pub contents : HasBodies epoch bodies bytes
  pub leads : LeadsTo empty_state bodies state

-- no live log, and no longer than a new one is: nothing yet, or a log whose making was cut short
abbrev pub IsBegun : List ℕ → Type 0
IsBegun bytes = IsDead bytes × (length bytes ≤ 18)

-- the state of a file: that of its log, or the empty one where there is no log yet
abbrev pub HasState : List ℕ → State → Type 0
HasState bytes state = IsLogOf state bytes ⊎ (IsBegun bytes × (state ≡ empty_state))

-- neither a log nor the beginning of one, and so long
abbrev pub IsForeign : ℕ → List ℕ → Type 0
IsForeign len bytes = IsDead bytes × (18 < length bytes) × (len ≡ length bytes)

-- a body is the spelling of no payload that follows
abbrev pub IsUnfit : State → List ℕ → Type 0
IsUnfit state body = (payload : Payload) → body ≡ spelled_payload payload → MayFollow state payload → ⊥

-- a log with a record, whose gate is at this place, that is no payload or one that doesn't follow those before it
pub record IsUnfitAt (at : ℕ) (bytes : List ℕ) : Type 0 where
  pub epoch : ℕ
  pub before : List (List ℕ)
  pub body : List ℕ
  pub behind : List (List ℕ)
  pub state : State
  pub contents : HasBodies epoch (before ++ body ∷ behind) bytes
  pub leads : LeadsTo empty_state before state
  pub place : at ≡ length (log_bytes epoch before)
  pub unfit : IsUnfit state body

-- a log that is damaged at this place, or whole with such a record there
abbrev pub IsRefusedAt : ℕ → List ℕ → Type 0
IsRefusedAt at bytes = IsDamagedAt at bytes ⊎ IsUnfitAt at bytes

-- each state of the one file is a state of the other
abbrev pub KeepsState : List ℕ → List ℕ → Type 0
KeepsState was bytes = (state : State) → HasState was state → HasState bytes state

-- the state before a payload, or the one after it, but that only where `may_be_there` holds
abbrev pub HasStateOrNext : Type 0 → State → Payload → List ℕ → Type 0
HasStateOrNext may_be_there state payload bytes = HasState bytes state ⊎ (may_be_there × HasState bytes (after_payload state payload))
