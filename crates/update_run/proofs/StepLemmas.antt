-- Payloads that are steps of a store that stands, one list after the other.
use Rattle.std.proofs.Common.{◌≡◌, List, [], ◌∷◌, ◌++◌, refl, sym, subst}
use Rattle.landing_core.specs.declared.landing.LandingFile.{LandingFile}
use Rattle.commit_payloads.specs.declared.payload.Payload.{Payload}
use Rattle.plan_core.specs.declared.plan.Dataset.{Dataset as Part}
use Rattle.state_model.specs.After.{after_payload, state_from}
use Rattle.state_model.specs.Dataset.{State}
use Rattle.state_steps.specs.Stands.{Stands}
use Rattle.state_steps.specs.Steps.{Commits}
use Rattle.update_plan.specs.Commits.{AllCommit}
use Rattle.flow_engine.specs.Engine.{LandingNow}
use Rattle.update_run.specs.Runs.{AreSteps}

pub state_after_both : (state : State) (one more : List Payload) → state_from state (one ++ more) ≡ state_from (state_from state one) more
state_after_both state [] more = refl
state_after_both state (payload ∷ one) more = state_after_both (after_payload state payload) one more

-- a law: a commit that is allowed keeps a store standing
abbrev pub KeepsStanding : Type 0
KeepsStanding = (parts new : List Part) (ever : List LandingFile) (state : State) (body : Payload) → Stands parts ever state → Commits parts ever state body new → Stands new ever (after_payload state body)

module _ (keeps : KeepsStanding) where
  pub stands_behind : (ever : List LandingFile) (parts new : List Part) (state : State) (payloads : List Payload) → Stands parts ever state → AllCommit parts ever state payloads new → Stands new ever (state_from state payloads)
  stands_behind ever parts new state [] stands all = subst (λ (p : List Part). Stands p ever state) (sym all) stands
  stands_behind ever parts new state (payload ∷ payloads) stands all =
      stands_behind ever all.0 new (after_payload state payload) payloads (keeps parts all.0 ever state payload stands all.1) all.2

  commit_both : (ever : List LandingFile) (parts mid new : List Part) (state : State) (one more : List Payload) → AllCommit parts ever state one mid → AllCommit mid ever (state_from state one) more new → AllCommit parts ever state (one ++ more) new
  commit_both ever parts mid new state [] more first later = subst (λ (p : List Part). AllCommit p ever state more new) first later
  commit_both ever parts mid new state (payload ∷ one) more first later = (first.0, first.1, commit_both ever first.0 mid new (after_payload state payload) one more first.2 later)

  pub steps_both : (landed : LandingNow) (plan : List Part) (state : State) (one more : List Payload) → AreSteps landed plan state one → AreSteps landed plan (state_from state one) more → AreSteps landed plan state (one ++ more)
  steps_both landed plan state one more first later = λ t parts stands of_plan.
      let commit = first t parts stands of_plan in
      commit_both landed.ever parts parts parts state one more commit (later t parts (stands_behind landed.ever parts parts state one stands commit) of_plan)

pub no_steps : (landed : LandingNow) (plan : List Part) (state : State) → AreSteps landed plan state []
no_steps landed plan state = λ t parts stands of_plan. refl
