-- A dataset of a store that is ready for its plan.
use Rattle.std.proofs.Common.{◌≡◌, Bool, true, false, cond, List, [], ◌∷◌, ℕ, map, Option, Some, None, refl, sym, ap, ◌∙◌, subst}
use Rattle.std.specs.Prelude.{⊤, IsSomeAnd, bytes_eq, find}
use Rattle.std.specs.List.{AllByRecursion}
use Rattle.std.proofs.lemmas.Slice.Eq.{bytes_eq-Decides}
use Rattle.value_core.specs.NameFold.{folded, same_name}
use Rattle.commit_payloads.specs.declared.definition.Definition.{Definition}
use Rattle.commit_payloads.specs.Forms.{IsKept}
use Rattle.plan_core.specs.declared.plan.Dataset.{Dataset as Part}
use Rattle.plan_core.specs.Sound.{dataset_named}
use Rattle.state_keeps.specs.Stored.{IsStored}
use Rattle.state_model.specs.Dataset.{Dataset, State, dataset_of, definitions_of, is_named}
use Rattle.state_model.specs.Follows.{AllFitStored, FitsStored}
use Rattle.state_model.specs.Saved.{kept_of}
use Rattle.state_steps.specs.Parts.{definition_of}
use Rattle.state_steps.proofs.Lookups.{some_same}
use Rattle.store_fitness.specs.Fitness.{IsAlike, IsReady, ReadsOn}
use Rattle.flow_news.proofs.StandLemmas.{found_by}

-- ---- names

name_is : (a b : List ℕ) → same_name a b ≡ true → folded a ≡ folded b
name_is a b e = (bytes_eq-Decides (folded a) (folded b)).0 e

-- by names that are the same one dataset is found
part_alike : (plan : List Part) (a b : List ℕ) → same_name a b ≡ true → dataset_named plan a ≡ dataset_named plan b
part_alike plan a b e = ap (λ (f : List ℕ). find (λ part. bytes_eq (folded part.name) f) plan) (name_is a b e)

dataset_alike : (state : State) (a b : List ℕ) → same_name a b ≡ true → dataset_of state a ≡ dataset_of state b
dataset_alike state a b e = ap (λ (f : List ℕ). find (λ dataset. bytes_eq (folded dataset.definition.name) f) state) (name_is a b e)

-- ---- what is found

passes_by : {A : Type 0} (test : A → Bool) (x : A) (here : Bool) (rest : Option A) → test x ≡ here → ((y : A) → rest ≡ Some y → test y ≡ true) → (y : A) → cond here (Some x) rest ≡ Some y → test y ≡ true
passes_by test x true rest is behind y e = subst (λ w. test w ≡ true) (some_same x y e) is
passes_by test x false rest is behind y e = behind y e

-- it passes the test
found_passes : {A : Type 0} (test : A → Bool) (xs : List A) (y : A) → find test xs ≡ Some y → test y ≡ true
found_passes test [] y e = cc
found_passes test (x ∷ xs) y e = passes_by test x (test x) (find test xs) refl (found_passes test xs) y e

-- it is as each of the list is
pub found_each : {A : Type 0} (P : A → Type 0) (test : A → Bool) (xs : List A) → AllByRecursion P xs → (y : A) → find test xs ≡ Some y → P y
found_each P test [] all y e = cc
found_each P test (x ∷ xs) all y e = found_by P x xs (test x) (find test xs) all.0 (found_each P test xs all.1) y e

found_defined : (P : Definition → Type 0) (state : State) (name : List ℕ) → AllByRecursion P (definitions_of state) → (d : Dataset) → dataset_of state name ≡ Some d → P d.definition
found_defined P [] name all d e = cc
found_defined P (x ∷ state) name all d e = found_by (λ w. P w.definition) x state (is_named name x) (dataset_of state name) all.0 (found_defined P state name all.1) d e

found_fits : (whole state : State) (name : List ℕ) → AllFitStored whole state → (d : Dataset) → dataset_of state name ≡ Some d → FitsStored whole d
found_fits whole [] name all d e = cc
found_fits whole (x ∷ state) name all d e = found_by (FitsStored whole) x state (is_named name x) (dataset_of state name) all.0 (found_fits whole state name all.1) d e

found_kept : (state : State) (name : List ℕ) → AllByRecursion IsKept (map kept_of state) → (d : Dataset) → dataset_of state name ≡ Some d → IsKept (kept_of d)
found_kept [] name all d e = cc
found_kept (x ∷ state) name all d e = found_by (λ w. IsKept (kept_of w)) x state (is_named name x) (dataset_of state name) all.0 (found_kept state name all.1) d e

some_that : {A : Type 0} (P : A → Type 0) (o : Option A) (a : A) → o ≡ Some a → IsSomeAnd o P → P a
some_that P o a e h = subst (λ w. IsSomeAnd w P) e h

some_there : (o : Option Dataset) → IsSomeAnd o (λ _. ⊤) → (d : Dataset) × (o ≡ Some d)
some_there None h = absurd h
some_there (Some d) h = (d, refl)

-- ---- a dataset

-- what is known of a dataset of a store that is ready for its plan
pub record ReadyTable (plan : List Part) (state : State) (part : Part) (target : Dataset) : Type 0 where
  pub defined : target.definition ≡ definition_of plan part
  pub fits : FitsStored state target
  pub form : IsKept (kept_of target)
  pub own : dataset_of state target.definition.name ≡ Some target
  pub reads_on : ReadsOn state target.definition

module _ (plan : List Part) (state : State) (ready : IsReady plan state) (stored : IsStored state) (name : List ℕ) (part : Part) (named : dataset_named plan name ≡ Some part) where
  -- each dataset of the plan is there
  pub ready_there : (target : Dataset) × (dataset_of state name ≡ Some target)
  ready_there =
      let here = found_each (λ p. IsSomeAnd (dataset_of state p.name) (λ _. ⊤)) (λ p. same_name p.name name) plan ready.stored part named in
      let found = some_there (dataset_of state part.name) here in
      (found.0, sym (dataset_alike state part.name name (found_passes (λ p. same_name p.name name) plan part named)) ∙ found.1)

  pub ready_table : (target : Dataset) → dataset_of state name ≡ Some target → ReadyTable plan state part target
  ready_table target there =
      let alike = found_defined (IsAlike plan) state name ready.fits.alike target there in
      let same = found_passes (is_named name) state target there in
      record {
        defined = some_that (λ p. target.definition ≡ definition_of plan p) (dataset_named plan target.definition.name) part (part_alike plan target.definition.name name same ∙ named) alike;
        fits = found_fits state state name stored.store.each target there;
        form = found_kept state name stored.form.kept target there;
        own = dataset_alike state target.definition.name name same ∙ there;
        reads_on = found_defined (ReadsOn state) state name ready.fits.read_on target there;
      }
