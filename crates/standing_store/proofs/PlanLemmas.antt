-- Datasets of a plan under their names, and those of a store that an accepted update finds.
use Rattle.std.proofs.Common.{◌≡◌, ◌↔◌, ℕ, zero, suc, List, [], ◌∷◌, ◌++◌, filter, Bool, true, false, not, cond, All, AllPairs, Some, None, refl, ap, ◌∙◌, subst, arith}
use Rattle.std.specs.Prelude.{IsSomeAnd, Ok}
use Rattle.std.specs.List.{AllByRecursion}
use Rattle.value_core.specs.NameFold.{same_name}
use Rattle.landing_core.specs.declared.landing.LandingFile.{LandingFile}
use Rattle.sql_tree.specs.declared.statement.Statement.{Statement}
use Rattle.commit_payloads.specs.declared.definition.Definition.{Definition}
use Rattle.plan_core.specs.declared.plan.Dataset.{Dataset as Part}
use Rattle.plan_core.specs.Sound.{IsSoundPlan, dataset_named}
use Rattle.plan_check.specs.Checks.{Checks}
use Rattle.plan_texts.specs.Readings.{AreRead}
use Rattle.plan_texts.specs.Texts.{HaveTexts}
use Rattle.state_model.specs.Dataset.{State, definitions_of}
use Rattle.state_steps.specs.Stands.{AllStand}
use Rattle.update_plan.specs.declared.ends.Refresh.{Refresh}
use Rattle.update_plan.specs.declared.ends.Refresh.TheVariants as refresh
use Rattle.update_plan.specs.Commits.{AreOfPlan, IsAccepted, IsOfPlan, IsUnchanged, parts_after}
use Rattle.update_plan.specs.Payloads.{is_new}
use Rattle.update_plan.specs.Refusals.{refusal}
use Rattle.update_plan.proofs.LookupLemmas.{name_itself}
use Rattle.update_plan.proofs.PartLemmas.{Differ, append_all, filter_all, from_all}
use Rattle.standing_store.specs.Standing.{StandsFor}

-- ---- each dataset of a plan is the one of its name

pairs_head : (q : Part) (qs : List Part) → AllPairs Differ (q ∷ qs) → All (Differ q) qs
pairs_head q qs pairs = λ k d inside. pairs zero (suc k) d (omega arith) (omega (arith, inside))

pairs_tail : (q : Part) (qs : List Part) → AllPairs Differ (q ∷ qs) → AllPairs Differ qs
pairs_tail q qs pairs = λ i j d less inside. pairs (suc i) (suc j) d (omega (arith, less)) (omega (arith, inside))

not_same : (test : Bool) → not test ≡ true → test ≡ false
not_same true e = cc
not_same false e = refl

behind : (q : Part) (qs ps : List Part) → AllByRecursion (Differ q) ps → AllByRecursion (λ part. dataset_named qs part.name ≡ Some part) ps → AllByRecursion (λ part. dataset_named (q ∷ qs) part.name ≡ Some part) ps
behind q qs [] differ found = tt
behind q qs (p ∷ ps) differ found = (ap (λ test. cond test (Some q) (dataset_named qs p.name)) (not_same (same_name q.name p.name) differ.0) ∙ found.0, behind q qs ps differ.1 found.1)

pub each_named : (plan : List Part) → AllPairs Differ plan → AreOfPlan plan plan
each_named [] pairs = tt
each_named (q ∷ qs) pairs = (
  ap (λ test. cond test (Some q) (dataset_named qs q.name)) (name_itself q.name),
  behind q qs qs (from_all (Differ q) qs (pairs_head q qs pairs)) (each_named qs (pairs_tail q qs pairs)),
)

-- ---- the datasets behind an update

with_new : (plan parts : List Part) (stored : List Definition) → AreOfPlan plan plan → AreOfPlan plan parts → AreOfPlan plan (parts ++ filter (is_new stored) plan)
with_new plan parts stored whole are =
    append_all (λ (part : Part). dataset_named plan part.name ≡ Some part) parts (filter (is_new stored) plan) are (filter_all (λ (part : Part). dataset_named plan part.name ≡ Some part) (is_new stored) plan whole)

pub after_of_plan : (plan parts : List Part) (state : State) (asked : Refresh) → AreOfPlan plan plan → IsOfPlan plan parts asked → AreOfPlan plan (parts_after plan parts state asked)
after_of_plan plan parts state refresh.Nothing whole are = with_new plan parts (definitions_of state) whole are
after_of_plan plan parts state refresh.All whole are = whole
after_of_plan plan parts state (refresh.Only names) whole are = with_new plan parts (definitions_of state) whole are

-- ---- an accepted update

-- what the law of equal texts tells
abbrev pub TextsAreOne : Type 0
TextsAreOne = (first second : List Statement) (old new parts : List Part) → AreRead first → AreRead second → Checks first (Ok old) → Checks second (Ok new) → IsSoundPlan parts → AreOfPlan old parts → HaveTexts new parts → AreOfPlan new parts

-- what the law of refusals tells
abbrev pub RefusalsTell : Type 0
RefusalsTell = (plan : List Part) (stored : List Definition) (asked : Refresh) → (refusal plan stored asked ≡ None) ↔ IsAccepted plan stored asked

module _ (ever : List LandingFile) (whole : State) (plan : List Part) where
  have_texts : (parts : List Part) (state : State) → AllStand ever whole parts state → AllByRecursion (IsUnchanged plan) (definitions_of state) → HaveTexts plan parts
  have_texts [] state all unchanged = tt
  have_texts (p ∷ ps) [] all unchanged = absurd all
  have_texts (p ∷ ps) (d ∷ ds) all unchanged = (
    subst (λ (text : List ℕ). IsSomeAnd (dataset_named plan p.name) (λ (other : Part). text ≡ other.text)) all.0.is_of.text
        (subst (λ (name : List ℕ). IsSomeAnd (dataset_named plan name) (λ (other : Part). d.definition.text ≡ other.text)) all.0.is_of.name unchanged.0),
    have_texts ps ds all.1 unchanged.1,
  )

accepted_by : (plan parts : List Part) (stored : List Definition) (asked : Refresh) → IsAccepted plan stored asked → (AllByRecursion (IsUnchanged plan) stored → AreOfPlan plan parts) → IsOfPlan plan parts asked
accepted_by plan parts stored refresh.Nothing accepted are = are accepted
accepted_by plan parts stored refresh.All accepted are = tt
accepted_by plan parts stored (refresh.Only names) accepted are = are accepted.1

pub accepted_of_plan : TextsAreOne → RefusalsTell → (ever : List LandingFile) (state : State) (parts plan : List Part) (statements : List Statement) (asked : Refresh)
    → StandsFor ever state parts → AreRead statements → Checks statements (Ok plan) → refusal plan (definitions_of state) asked ≡ None → IsOfPlan plan parts asked
accepted_of_plan one tells ever state parts plan statements asked standing read checked none =
    accepted_by plan parts (definitions_of state) asked ((tells plan (definitions_of state) asked).0 none)
    (λ unchanged.
    one standing.of_text.statements statements standing.of_text.plan plan parts standing.of_text.read read standing.of_text.checked checked standing.stands.sound standing.of_text.each
    (have_texts ever state plan parts state standing.stands.each unchanged))
