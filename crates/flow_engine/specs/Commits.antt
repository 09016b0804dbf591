-- What a commit, and a flow that has come to something, do to a store and leave of it.
use Rattle.std.specs.Prelude.{◌≡◌, ◌⊎◌, ℕ, List, Some, Result, OnOk}
use Rattle.disk_model.specs.Disk.{DiskState}
use Rattle.landing_core.specs.declared.landing.LandingFile.{LandingFile}
use Rattle.commit_payloads.specs.declared.payload.Payload.{Payload}
use Rattle.plan_core.specs.declared.flow.AppendFlow.{AppendFlow}
use Rattle.plan_core.specs.declared.plan.Body.TheVariants as body
use Rattle.plan_core.specs.declared.plan.Dataset.{Dataset as Part}
use Rattle.plan_core.specs.declared.stop.FlowEnd.{FlowEnd}
use Rattle.plan_core.specs.Sound.{IsSoundPlan, dataset_named}
use Rattle.log_pair.specs.AtRest.{pair_end}
use Rattle.pair_store.specs.Store.{store_pair, store_state}
use Rattle.pair_store.specs.declared.store.Store.{Store}
use Rattle.state_model.specs.After.{state_from}
use Rattle.state_model.specs.Dataset.{State}
use Rattle.state_steps.specs.Stands.{Stands}
use Rattle.state_steps.specs.Steps.{flow_named}
use Rattle.store_fitness.specs.Fitness.{AreAppends, IsReady}
use Rattle.update_plan.specs.Commits.{AllCommit, PartsKeepText}
use Rattle.flow_news.specs.declared.offer.Offer.{Offer}
use Rattle.commit_trails.specs.Trails.{Trail}
use Rattle.flow_engine.specs.declared.ends.End.{End}
use Rattle.flow_engine.specs.Ends.{RunsOut, Settles, acked_by, tried_by}
use Rattle.flow_engine.specs.Points.{end_after}

-- where the log of a store ends
abbrev pub end_of : Store → ℕ
end_of store = pair_end (store_pair store)

-- the store as these payloads leave it
pub record IsAfter (was : Store) (payloads : List Payload) (now : Store) : Type 0 where
  pub state_is : store_state now ≡ state_from (store_state was) payloads
  pub end_is : end_of now ≡ end_after (end_of was) payloads

-- a payload was committed, or not
pub record HasCommitted (timed : Type 0) (room : ℕ) (payload : Payload) (was now : Store) (result : Result (Unit {0}) End) (old new : DiskState) : Type 0 where
  pub trail : Trail timed (store_state was) (acked_by payload result) (tried_by payload result) old new
  pub behind : OnOk result (IsAfter was (tried_by payload result) now)

-- what a flow came to was committed, where it was a batch
pub record HasSettled (timed : Type 0) (room version : ℕ) (offer : Offer) (was now : Store) (answer : Result FlowEnd End) (old new : DiskState) : Type 0 where
  pub acked : List Payload
  pub tried : List Payload
  pub settles : Settles (store_state was) (end_of was) room version offer acked tried answer
  pub trail : Trail timed (store_state was) acked tried old new
  pub behind : OnOk answer ((acked ≡ tried) × IsAfter was tried now)

-- A flow of a dataset ended so, unless memory ran out: what it committed, what a crash leaves, and the store behind it.
pub record HasEnded (timed tells : Type 0) (ever : List LandingFile) (dataset : Part) (Ends : List Payload → List Payload → Result FlowEnd End → Type 0) (was now : Store) (answer : Result FlowEnd End) (old new : DiskState) : Type 0 where
  pub acked : List Payload
  pub tried : List Payload
  pub ends : RunsOut acked tried answer ⊎ Ends acked tried answer
  pub trail : Trail timed (store_state was) acked tried old new
  pub behind : OnOk answer ((acked ≡ tried) × IsAfter was tried now)
  -- where the landing tells, it is a step of a store that stands for parts with the dataset
  pub steps : tells → (parts : List Part) → Stands parts ever (store_state was) → dataset_named parts dataset.name ≡ Some dataset → AllCommit parts ever (store_state was) tried parts

-- a flow of a dataset of a sound plan of append tables, and a store that is ready for the plan
pub record MayRun (plan : List Part) (state : State) (dataset : Part) (flow : AppendFlow) : Type 0 where
  pub appends : AreAppends plan
  pub sound : IsSoundPlan plan
  pub text : PartsKeepText plan
  pub ready : IsReady plan state
  pub flows : List AppendFlow
  pub named : dataset_named plan dataset.name ≡ Some dataset
  pub body_is : dataset.body ≡ body.Append flows
  pub is_flow : flow_named flows flow.name ≡ Some flow
