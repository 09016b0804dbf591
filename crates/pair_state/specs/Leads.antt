-- The state to which the bodies of a log lead.
use Rattle.std.specs.Prelude.{◌≡◌, ◌+◌, ℕ, List, [], ◌∷◌, ◌++◌, length}
use Rattle.commit_gate.specs.Log.{records}
use Rattle.commit_payloads.specs.declared.payload.Payload.{Payload}
use Rattle.commit_payloads.specs.Payloads.{spelled_payload}
use Rattle.state_model.specs.After.{after_payload}
use Rattle.state_model.specs.Dataset.{State, empty_state}
use Rattle.state_model.specs.Follows.{MayFollow}

-- from one state these bodies lead to another: each is the spelling of a payload that follows the state before it
abbrev pub LeadsTo : State → List (List ℕ) → State → Type 0
LeadsTo from [] to = to ≡ from
LeadsTo from (body ∷ bodies) to = (payload : Payload) × (body ≡ spelled_payload payload) × MayFollow from payload × LeadsTo (after_payload from payload) bodies to

-- some bodies lead to this state from no datasets
pub record IsReachable (state : State) : Type 0 where
  pub bodies : List (List ℕ)
  pub leads : LeadsTo empty_state bodies state

-- a body is the spelling of no payload that follows
abbrev pub IsUnfit : State → List ℕ → Type 0
IsUnfit state body = (payload : Payload) → body ≡ spelled_payload payload → MayFollow state payload → ⊥

-- the first unfit body, and the place of its gate: 17, and 9 and its length for each body before it
pub record IsUnfitIn (at : ℕ) (bodies : List (List ℕ)) : Type 0 where
  pub before : List (List ℕ)
  pub body : List ℕ
  pub behind : List (List ℕ)
  pub state : State
  pub parts : bodies ≡ before ++ body ∷ behind
  pub leads : LeadsTo empty_state before state
  pub place : at ≡ 17 + length (records before)
  pub unfit : IsUnfit state body
