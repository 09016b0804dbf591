-- How a flow of a plan has run, from how the flow of its dataset has ended.
use Rattle.std.proofs.Common.{◌≡◌, ◌⊎◌, inl, inr, ℕ, List, Bool, Some, Result, Ok, Err, IfOk, OnOk, ap, ◌∙◌, subst}
use Rattle.disk_model.specs.Disk.{DiskState}
use Rattle.commit_payloads.specs.declared.payload.Payload.{Payload}
use Rattle.plan_core.specs.declared.flow.AppendFlow.{AppendFlow}
use Rattle.plan_core.specs.declared.plan.Dataset.{Dataset as Part}
use Rattle.plan_core.specs.declared.stop.FlowEnd.{FlowEnd}
use Rattle.plan_core.specs.Sound.{dataset_named}
use Rattle.pair_store.specs.Store.{store_state}
use Rattle.state_model.specs.Dataset.{State}
use Rattle.flow_engine.specs.declared.ends.End.{End}
use Rattle.flow_engine.specs.declared.engine.Engine.{Engine}
use Rattle.flow_engine.specs.declared.flow_id.FlowId.{FlowId}
use Rattle.flow_engine.specs.Commits.{HasEnded, IsAfter, end_of}
use Rattle.flow_engine.specs.Ends.{FlowEnds, RunsOut, RunsUnless}
use Rattle.flow_engine.specs.Engine.{HasRunFlow, LandingNow}
use Rattle.flow_engine.specs.Flows.{IsFlowAt, blocked_by, listing_for}
use Rattle.flow_engine.specs.Points.{Point, engine_halted, engine_store, is_halt, marked, point_after, point_of}
use Rattle.flow_engine.proofs.PlaceLemmas.{at_place}

abbrev point : State → List Bool → ℕ → Point
point state halted at = record { state = state; halted = halted; at = at }

same_point : (state other : State) (halted marks : List Bool) (at end : ℕ) → state ≡ other → halted ≡ marks → at ≡ end → point state halted at ≡ point other marks end
same_point state other halted marks at end states halts ends =
    ap (λ s. point s halted at) states ∙ (ap (λ h. point other h at) halts ∙ ap (λ n. point other marks n) ends)

module _ (timed : Type 0) (landed : LandingNow) (plan : List Part) (room : ℕ) (id : FlowId) (was : Engine) (dataset : Part) (flow : AppendFlow) (at : IsFlowAt plan id dataset flow) (halted : List Bool) (same : halted ≡ engine_halted was) where
  ends_of : (acked tried : List Payload) (answer : Result FlowEnd End)
      → RunsOut acked tried answer ⊎ RunsUnless landed.tells landed.present room (blocked_by flow.origin plan halted) (listing_for landed.listings flow.origin) (store_state (engine_store was)) (end_of (engine_store was)) dataset flow acked tried answer
      → FlowEnds landed.tells landed.present landed.listings plan room id (point_of was) acked tried answer
  ends_of acked tried answer (inl out) = inl out
  ends_of acked tried answer (inr runs) = inr (
    dataset,
    flow,
    at,
    subst
        (λ (marks : List Bool). RunsUnless landed.tells landed.present room (blocked_by flow.origin plan marks) (listing_for landed.listings flow.origin) (store_state (engine_store was)) (end_of (engine_store was)) dataset flow acked tried answer)
        same runs,
  )

  behind_of : (now : Engine) (acked tried : List Payload) (answer : Result FlowEnd End) → OnOk answer ((acked ≡ tried) × IsAfter (engine_store was) tried (engine_store now))
      → IfOk answer (λ end. engine_halted now ≡ marked id.dataset (is_halt end) (engine_halted was)) → IfOk answer (λ end. (acked ≡ tried) × (point_of now ≡ point_after id.dataset end tried (point_of was)))
  behind_of now acked tried (Err end) behind marks = tt
  behind_of now acked tried (Ok end) behind marks = (behind.0, same_point _ _ _ _ _ _ behind.1.state_is marks behind.1.end_is)

  pub ran : (now : Engine) (answer : Result FlowEnd End) (old new : DiskState)
      → HasEnded timed landed.tells landed.ever dataset
      (RunsUnless landed.tells landed.present room (blocked_by flow.origin plan halted) (listing_for landed.listings flow.origin) (store_state (engine_store was)) (end_of (engine_store was)) dataset flow) (engine_store was) (engine_store now) answer old new
      → IfOk answer (λ end. engine_halted now ≡ marked id.dataset (is_halt end) (engine_halted was)) → HasRunFlow timed landed plan room id (point_of was) answer now old new
  ran now answer old new ended marks = record {
    acked = ended.acked;
    tried = ended.tried;
    ends = ends_of ended.acked ended.tried answer ended.ends;
    trail = ended.trail;
    behind = behind_of now ended.acked ended.tried answer ended.behind marks;
    steps = λ told parts stands of_plan. ended.steps told parts stands (at_place (λ part. dataset_named parts part.name ≡ Some part) plan id.dataset dataset of_plan at.dataset_is);
  }
