-- Datasets of a store that stands, and what is found in lists.
use Rattle.std.proofs.Common.{◌≡◌, Bool, true, false, cond, List, [], ◌∷◌, ℕ, Option, Some, refl, ap, ◌∙◌, subst}
use Rattle.std.specs.Prelude.{find, All}
use Rattle.std.proofs.lemmas.List.Elements.{All-head, All-tail}
use Rattle.value_core.specs.NameFold.{same_name}
use Rattle.landing_core.specs.declared.landing.LandingFile.{LandingFile}
use Rattle.plan_core.specs.declared.plan.Dataset.{Dataset as Part}
use Rattle.plan_core.specs.Sound.{dataset_named}
use Rattle.state_model.specs.Dataset.{Dataset, State, dataset_of}
use Rattle.state_steps.specs.Stands.{AllStand}
use Rattle.state_steps.proofs.Lookups.{some_same}

-- ---- what is there

pub found_by : {A : Type 0} (P : A → Type 0) (x : A) (xs : List A) (here : Bool) (rest : Option A) → P x → ((y : A) → rest ≡ Some y → P y) → (y : A) → cond here (Some x) rest ≡ Some y → P y
found_by P x xs true rest p behind y e = subst P (some_same x y e) p
found_by P x xs false rest p behind y e = behind y e

-- what is found in a list is as each of it is
pub found_all : {A : Type 0} (P : A → Type 0) (test : A → Bool) (xs : List A) → All P xs → (y : A) → find test xs ≡ Some y → P y
found_all P test [] all y e = cc
found_all P test (x ∷ xs) all y e = found_by P x xs (test x) (find test xs) (All-head P x xs all) (found_all P test xs (All-tail P x xs all)) y e

module _ (ever : List LandingFile) (whole : State) where
  there_by : (p : Part) (ps : List Part) (d : Dataset) (ds : State) (name : List ℕ) (here : Bool) → same_name p.name name ≡ here → d.definition.name ≡ p.name
      → ((part : Part) → dataset_named ps name ≡ Some part → (target : Dataset) × (dataset_of ds name ≡ Some target))
      → (part : Part) → cond here (Some p) (dataset_named ps name) ≡ Some part → (target : Dataset) × (dataset_of (d ∷ ds) name ≡ Some target)
  there_by p ps d ds name true is same behind part e = (d, ap (λ (k : List ℕ). cond (same_name k name) (Some d) (dataset_of ds name)) same ∙ ap (λ (b : Bool). cond b (Some d) (dataset_of ds name)) is)
  there_by p ps d ds name false is same behind part e =
      let go = behind part e in
      (go.0, ap (λ (k : List ℕ). cond (same_name k name) (Some d) (dataset_of ds name)) same ∙ ap (λ (b : Bool). cond b (Some d) (dataset_of ds name)) is ∙ go.1)

  -- the dataset of parts that are found is found by the same name
  pub there_too : (parts : List Part) (state : State) (name : List ℕ) → AllStand ever whole parts state → (part : Part) → dataset_named parts name ≡ Some part → (target : Dataset) × (dataset_of state name ≡ Some target)
  there_too [] state name all part e = cc
  there_too (p ∷ ps) [] name all part e = absurd all
  there_too (p ∷ ps) (d ∷ ds) name all part e = there_by p ps d ds name (same_name p.name name) refl all.0.is_of.name (there_too ps ds name all.1) part e
