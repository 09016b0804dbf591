-- What the bodies of a log come to, one after another.
use Rattle.std.specs.Prelude.{◌≡◌, ◌≢◌, ℕ, List, [], Bool, true, false, Result, Ok, Err}
use Rattle.disk_model.specs.declared.disk.Side.{Side}
use Rattle.commit_payloads.specs.declared.payload.Payload.{Payload}
use Rattle.commit_payloads.specs.Payloads.{spelled_payload}
use Rattle.state_model.specs.After.{after_payload}
use Rattle.state_model.specs.Dataset.{State, empty_state}
use Rattle.state_model.specs.Follows.{MayFollow}
use Rattle.pair_state.specs.Leads.{LeadsTo, IsUnfit, IsUnfitIn}
use Rattle.pair_store.specs.declared.refusal.StoreRefusal.{StoreRefusal}
use Rattle.pair_store.specs.declared.refusal.StoreRefusal.TheVariants.{Foreign, Damaged, SameEpoch, Full, Failed, Memory}

-- a body was taken, or left since it is unfit
abbrev pub TakesBody : State → State → List ℕ → Bool → Type 0
TakesBody old new body true = (payload : Payload) × (body ≡ spelled_payload payload) × MayFollow old payload × (new ≡ after_payload old payload)
TakesBody old new body false = IsUnfit old body

-- the state that the bodies of the log in this file lead to, or the first that is unfit; where there is none they need no
-- memory
abbrev pub BodiesComeTo : Side → List (List ℕ) → Result State StoreRefusal → Type 0
BodiesComeTo side bodies (Ok state) = LeadsTo empty_state bodies state
BodiesComeTo side bodies (Err (Foreign found len)) = ⊥
BodiesComeTo side bodies (Err (Damaged found at)) = (found ≡ side) × IsUnfitIn at bodies
BodiesComeTo side bodies (Err (SameEpoch epoch)) = ⊥
BodiesComeTo side bodies (Err (Full end room)) = ⊥
BodiesComeTo side bodies (Err Failed) = ⊥
BodiesComeTo side bodies (Err Memory) = bodies ≢ []
