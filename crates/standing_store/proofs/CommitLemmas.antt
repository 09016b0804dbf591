-- Payloads that are committed one after the other leave a store standing.
use Rattle.std.proofs.Common.{◌≡◌, ◌⊎◌, ⊎_elim, List, [], ◌∷◌, ◌++◌, refl, sym, subst}
use Rattle.std.specs.Prelude.{Ok}
use Rattle.landing_core.specs.declared.landing.LandingFile.{LandingFile}
use Rattle.sql_tree.specs.declared.statement.Statement.{Statement}
use Rattle.commit_payloads.specs.declared.payload.Payload.{Payload}
use Rattle.plan_core.specs.declared.plan.Dataset.{Dataset as Part}
use Rattle.plan_check.specs.Checks.{Checks}
use Rattle.plan_texts.specs.Readings.{AreRead}
use Rattle.state_model.specs.After.{after_payload, state_from}
use Rattle.state_model.specs.Dataset.{State}
use Rattle.state_model.specs.Saved.{compacted, read_back, saved}
use Rattle.state_steps.specs.Shapes.{AllHaveShape}
use Rattle.state_steps.specs.Stands.{Stands}
use Rattle.state_steps.specs.Steps.{Commits}
use Rattle.update_plan.specs.declared.ends.Refresh.{Refresh}
use Rattle.update_plan.specs.Commits.{AllCommit, AreOfPlan, IsOfPlan, parts_after}
use Rattle.pair_store.specs.Compact.{base_of}
use Rattle.standing_store.specs.Fronts.{FrontsCommit}
use Rattle.standing_store.specs.Standing.{AreOfText, FrontsStand, IsStanding, StandsFor}
use Rattle.standing_store.proofs.PlanLemmas.{after_of_plan}

-- what the laws of one commit tell
abbrev pub KeepsStanding : Type 0
KeepsStanding = (parts new : List Part) (ever : List LandingFile) (state : State) (body : Payload) → Stands parts ever state → Commits parts ever state body new → Stands new ever (after_payload state body)

abbrev pub KeepsShape : Type 0
KeepsShape = (parts new : List Part) (ever : List LandingFile) (state : State) (body : Payload) → Stands parts ever state → AllHaveShape parts state → Commits parts ever state body new → AllHaveShape new (after_payload state body)

module _ (keeps : KeepsStanding) (shapes : KeepsShape) (ever : List LandingFile) where
  all_stand : (payloads : List Payload) (parts now : List Part) (state : State) → Stands parts ever state → AllHaveShape parts state → AllCommit parts ever state payloads now
      → Stands now ever (state_from state payloads) × AllHaveShape now (state_from state payloads)
  all_stand [] parts now state stands shaped commits = subst (λ (list : List Part). Stands list ever state × AllHaveShape list state) (sym commits) (stands, shaped)
  all_stand (payload ∷ payloads) parts now state stands shaped commits =
      all_stand payloads commits.0 now (after_payload state payload) (keeps parts commits.0 ever state payload stands commits.1) (shapes parts commits.0 ever state payload stands shaped commits.1) commits.2

  pub commits_stand : (state : State) (parts now : List Part) (payloads : List Payload) → StandsFor ever state parts → AllCommit parts ever state payloads now → AreOfText now → StandsFor ever (state_from state payloads) now
  commits_stand state parts now payloads standing commits text =
      let both = all_stand payloads parts now state standing.stands standing.shaped commits in
      record { stands = both.0; shaped = both.1; of_text = text }

  -- ---- an update

  of_either : (parts after now : List Part) → AreOfText parts → AreOfText after → (now ≡ parts) ⊎ (now ≡ after) → AreOfText now
  of_either parts after now was behind either = ⊎_elim (λ is. subst (λ (list : List Part). AreOfText list) (sym is) was) (λ is. subst (λ (list : List Part). AreOfText list) (sym is) behind) either

  pub update_stands : (state : State) (parts plan : List Part) (statements : List Statement) (asked : Refresh) (tried : List Payload) → AreOfPlan plan plan → StandsFor ever state parts → AreRead statements → Checks statements (Ok plan)
      → IsOfPlan plan parts asked → FrontsCommit parts ever state tried (parts_after plan parts state asked) → FrontsStand ever state tried
  update_stands state parts plan statements asked tried whole standing read checked are fronts front behind is =
      let one = fronts front behind is in
      let text : AreOfText (parts_after plan parts state asked) = record { statements = statements; read = read; plan = plan; checked = checked; each = after_of_plan plan parts state asked whole are } in
      (one.0, commits_stand state parts one.0 front standing one.1 (of_either parts (parts_after plan parts state asked) one.0 standing.of_text text one.2))

  -- ---- a compaction

  folds_to : (state : State) → read_back (saved (compacted state)) ≡ compacted state → after_payload state (base_of state) ≡ compacted state
  folds_to state back = back

  pub base_stands : (state : State) (parts : List Part) → StandsFor ever state parts → StandsFor ever (after_payload state (base_of state)) parts
  base_stands state parts standing = commits_stand state parts parts (base_of state ∷ []) standing (parts, (refl, refl), refl) standing.of_text

  pub compaction_stands : ((some : State) → read_back (saved some) ≡ some) → (state : State) (parts : List Part) → StandsFor ever state parts → StandsFor ever (compacted state) parts
  compaction_stands back state parts standing = subst (λ (next : State). StandsFor ever next parts) (back (compacted state)) (base_stands state parts standing)

  front_of_one : (state : State) (payload : Payload) (front behind : List Payload) → payload ∷ [] ≡ front ++ behind → IsStanding ever state → IsStanding ever (after_payload state payload) → IsStanding ever (state_from state front)
  front_of_one state payload [] behind is before after = before
  front_of_one state payload (first ∷ []) behind is before after =
      let same : payload ≡ first = cc in
      subst (λ (body : Payload). IsStanding ever (after_payload state body)) same after
  front_of_one state payload (first ∷ next ∷ more) behind is before after = cc

  pub base_fronts : (state : State) → IsStanding ever state → FrontsStand ever state (base_of state ∷ [])
  base_fronts state standing front behind is = front_of_one state (base_of state) front behind is standing (standing.0, base_stands state standing.0 standing.1)

-- ---- nothing is tried

pub none_fronts : (ever : List LandingFile) (state : State) → IsStanding ever state → FrontsStand ever state []
none_fronts ever state standing [] behind is = standing
none_fronts ever state standing (first ∷ more) behind is = cc
