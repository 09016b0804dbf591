-- What payloads lead to, and where the log of a file ends.
use Rattle.std.specs.Prelude.{◌≡◌, ◌⊎◌, ℕ, List, length}
use Rattle.commit_gate.specs.Log.{log_bytes, HasBodies}
use Rattle.store_state.specs.State.{State, empty_state}
use Rattle.store_core.specs.State.{LeadsTo, IsBegun}

-- some bodies lead to this state, each the spelling of a payload that follows those before it
pub record IsReachable (state : State) : Type 0 where
  pub bodies : List (List ℕ)
  pub leads : LeadsTo empty_state bodies state

-- the closed gate of a live log stands at this place
pub record IsLogEnd (end : ℕ) (bytes : List ℕ) : Type 0 where
  pub epoch : ℕ
  pub bodies : List (List ℕ)
  pub contents : HasBodies epoch bodies bytes
  pub place : end ≡ length (log_bytes epoch bodies)

-- where the next record of a file will stand: at the closed gate of its live log or, where there is no log yet, at that
-- of a new one
abbrev pub EndsAt : ℕ → List ℕ → Type 0
EndsAt end bytes = IsLogEnd end bytes ⊎ (IsBegun bytes × (end ≡ 17))
