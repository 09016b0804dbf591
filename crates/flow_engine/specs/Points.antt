-- What stands between two flows of an update.
use Rattle.std.specs.Prelude.{ℕ, zero, suc, ◌+◌, List, [], ◌∷◌, Bool, true, false, length}
use Rattle.commit_payloads.specs.declared.payload.Payload.{Payload}
use Rattle.commit_payloads.specs.Payloads.{spelled_payload}
use Rattle.plan_core.specs.declared.stop.FlowEnd.{FlowEnd}
use Rattle.plan_core.specs.declared.stop.FlowEnd.TheVariants.{Completed, Current, Stopped, Skipped}
use Rattle.log_pair.specs.AtRest.{pair_end}
use Rattle.pair_store.specs.Store.{store_pair, store_state}
use Rattle.pair_store.specs.declared.store.Store.{Store}
use Rattle.state_model.specs.After.{state_from}
use Rattle.state_model.specs.Dataset.{State}
use Rattle.flow_engine.specs.declared.engine.Engine.{Engine}

abbrev pub engine_store : Engine → Store
engine_store engine = engine.store

abbrev pub engine_state : Engine → State
engine_state engine = store_state (engine_store engine)

-- a mark a dataset of the plan: a flow of it stopped or was skipped
abbrev pub engine_halted : Engine → List Bool
engine_halted engine = engine.halted.items

-- the state of the store, which datasets stopped or were skipped, and where the log ends
pub record Point : Type 0 where
  pub state : State
  pub halted : List Bool
  pub at : ℕ

abbrev pub point_of : Engine → Point
point_of engine = record { state = engine_state engine; halted = engine_halted engine; at = pair_end (store_pair (engine_store engine)) }

-- ---- behind a flow

-- where the log ends behind the records of these payloads: 9 bytes frame each body
abbrev pub end_after : ℕ → List Payload → ℕ
end_after at [] = at
end_after at (payload ∷ payloads) = end_after (at + 9 + length (spelled_payload payload)) payloads

-- a flow that stopped or was skipped halts what reads its dataset
abbrev pub is_halt : FlowEnd → Bool
is_halt (Completed read version) = false
is_halt Current = false
is_halt (Stopped why) = true
is_halt (Skipped name) = true

-- the mark at this place is set, if this is so
abbrev pub marked : ℕ → Bool → List Bool → List Bool
marked place is [] = []
marked zero true (first ∷ more) = true ∷ more
marked zero false (first ∷ more) = first ∷ more
marked (suc place) is (first ∷ more) = first ∷ marked place is more

-- what stands behind a flow of the dataset at this place, which ended so and committed these payloads
abbrev pub point_after : ℕ → FlowEnd → List Payload → Point → Point
point_after place end payloads point =
    record { state = state_from point.state payloads; halted = marked place (is_halt end) point.halted; at = end_after point.at payloads }
