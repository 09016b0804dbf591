-- What the bodies of a log come to, one after another.
use Rattle.std.specs.Prelude.{◌≡◌, ℕ, ◌+◌, List, ◌∷◌, ◌++◌, length, Bool, true, false, Result, Ok, Err}
use Rattle.disk_model.specs.declared.disk.Side.TheVariants.{Left}
use Rattle.commit_gate.specs.Log.{records}
use Rattle.commit_records.specs.declared.payload.Payload.{Payload}
use Rattle.commit_records.specs.Payloads.{spelled_payload}
use Rattle.store_state.specs.State.{State, empty_state, after_payload, MayFollow}
use Rattle.store_core.specs.State.{LeadsTo, IsUnfit}
use Rattle.store_core.specs.declared.refusal.StoreRefusal.{StoreRefusal}
use Rattle.store_core.specs.declared.refusal.StoreRefusal.TheVariants.{Foreign, Damaged, Full, Failed, Memory}

-- a body was taken, or left since it is unfit
abbrev pub TakesBody : State → State → List ℕ → Bool → Type 0
TakesBody old new body true = (payload : Payload) × (body ≡ spelled_payload payload) × MayFollow old payload × (new ≡ after_payload old payload)
TakesBody old new body false = IsUnfit old body

-- the first unfit body, and the place of its gate in the log
pub record IsUnfitIn (at : ℕ) (bodies : List (List ℕ)) : Type 0 where
  pub before : List (List ℕ)
  pub body : List ℕ
  pub behind : List (List ℕ)
  pub state : State
  pub parts : bodies ≡ before ++ body ∷ behind
  pub leads : LeadsTo empty_state before state
  pub place : at ≡ 17 + length (records before)
  pub unfit : IsUnfit state body

-- the state that the bodies lead to, or the first that is unfit
abbrev pub BodiesAnswer : List (List ℕ) → Result State StoreRefusal → Type 0
BodiesAnswer bodies (Ok state) = LeadsTo empty_state bodies state
BodiesAnswer bodies (Err (Foreign side len)) = ⊥
BodiesAnswer bodies (Err (Damaged side at)) = (side ≡ Left) × IsUnfitIn at bodies
BodiesAnswer bodies (Err (Full end room)) = ⊥
BodiesAnswer bodies (Err Failed) = ⊥
BodiesAnswer bodies (Err Memory) = Unit {0}
