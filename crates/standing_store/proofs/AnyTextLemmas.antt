-- An update by the plan of whatever text.
use Rattle.std.proofs.Common.{◌≡◌, ◌⊎◌, ⊎_elim, List, [], None, sym, subst}
use Rattle.std.specs.Prelude.{Ok}
use Rattle.landing_core.specs.declared.landing.LandingFile.{LandingFile}
use Rattle.sql_tree.specs.declared.statement.Statement.{Statement}
use Rattle.commit_payloads.specs.declared.payload.Payload.{Payload}
use Rattle.plan_core.specs.declared.plan.Dataset.{Dataset as Part}
use Rattle.plan_check.specs.Checks.{Checks}
use Rattle.plan_texts.specs.Readings.{AreRead}
use Rattle.state_model.specs.Dataset.{State, definitions_of}
use Rattle.state_steps.specs.Parts.{AreTyped}
use Rattle.state_steps.specs.Stands.{Stands}
use Rattle.update_plan.specs.declared.ends.Refresh.{Refresh}
use Rattle.update_plan.specs.Commits.{IsOfPlan, parts_after}
use Rattle.update_plan.specs.Refusals.{refusal}
use Rattle.standing_store.specs.Fronts.{FrontsCommit}
use Rattle.standing_store.specs.Standing.{FrontsStand, IsStanding, StandsFor}
use Rattle.standing_store.proofs.CommitLemmas.{none_fronts}

-- what the laws of an accepted update tell
abbrev pub AcceptedOfPlan : Type 0
AcceptedOfPlan = (ever : List LandingFile) (state : State) (parts plan : List Part) (statements : List Statement) (asked : Refresh)
    → StandsFor ever state parts → AreRead statements → Checks statements (Ok plan) → refusal plan (definitions_of state) asked ≡ None → IsOfPlan plan parts asked

abbrev pub UpdateKeeps : Type 0
UpdateKeeps = (ever : List LandingFile) (state : State) (parts plan : List Part) (statements : List Statement) (asked : Refresh) (tried : List Payload)
    → StandsFor ever state parts → AreRead statements → Checks statements (Ok plan) → IsOfPlan plan parts asked → FrontsCommit parts ever state tried (parts_after plan parts state asked) → FrontsStand ever state tried

pub any_text_stands : AcceptedOfPlan → UpdateKeeps → (ever : List LandingFile) (state : State) (plan : List Part) (statements : List Statement) (asked : Refresh) (tried : List Payload)
    → IsStanding ever state → AreRead statements → Checks statements (Ok plan) → (tried ≡ []) ⊎ (refusal plan (definitions_of state) asked ≡ None)
    → ((parts : List Part) → Stands parts ever state → AreTyped parts parts (definitions_of state) → IsOfPlan plan parts asked → FrontsCommit parts ever state tried (parts_after plan parts state asked))
    → FrontsStand ever state tried
any_text_stands accepted keeps ever state plan statements asked tried standing read checked either steps =
    ⊎_elim (λ none. subst (λ (list : List Payload). FrontsStand ever state list) (sym none) (none_fronts ever state standing))
    (λ none.
    let are : IsOfPlan plan standing.0 asked = accepted ever state standing.0 plan statements asked standing.1 read checked none in
    keeps ever state standing.0 plan statements asked tried standing.1 read checked are (steps standing.0 standing.1.stands standing.1.shaped.typed are))
    either
