-- Datasets by name: of a plan, of a store, and of a store with what is new of a plan behind it.
use Rattle.std.proofs.Common.{◌≡◌, ℕ, List, [], ◌∷◌, ◌++◌, filter, Bool, true, false, not, cond, ◌||◌, Option, Some, None, refl, sym, ap, ◌∙◌, subst}
use Rattle.std.specs.Prelude.{bytes_eq, find, is_some, unwrap_or}
use Rattle.std.specs.List.{AllByRecursion, list_any}
use Rattle.std.specs.Option.{option_or}
use Rattle.std.proofs.lemmas.List.Folds.{find-append}
use Rattle.std.proofs.lemmas.Slice.Eq.{bytes_eq-Decides}
use Rattle.value_core.specs.NameFold.{folded, same_name}
use Rattle.landing_core.specs.declared.landing.LandingFile.{LandingFile}
use Rattle.plan_core.specs.declared.plan.Dataset.{Dataset as Part}
use Rattle.plan_core.specs.Sound.{dataset_named}
use Rattle.commit_payloads.specs.declared.definition.Definition.{Definition}
use Rattle.state_model.specs.Dataset.{Dataset, State, dataset_of, definitions_of}
use Rattle.state_steps.specs.Stands.{AllStand}
use Rattle.update_plan.specs.Commits.{AreOfPlan}
use Rattle.update_plan.specs.Payloads.{is_new, is_stored}

-- ---- names that are the same

folds : (a b : List ℕ) → same_name a b ≡ true → folded a ≡ folded b
folds a b e = (bytes_eq-Decides (folded a) (folded b)).0 e

pub name_itself : (name : List ℕ) → same_name name name ≡ true
name_itself name = (bytes_eq-Decides (folded name) (folded name)).1 refl

pub named_alike : (plan : List Part) (a b : List ℕ) → same_name a b ≡ true → dataset_named plan a ≡ dataset_named plan b
named_alike plan a b e = ap (λ (f : List ℕ). find (λ (part : Part). bytes_eq (folded part.name) f) plan) (folds a b e)

pub stored_alike : (stored : List Definition) (a b : List ℕ) → same_name a b ≡ true → is_stored stored a ≡ is_stored stored b
stored_alike stored a b e = ap (λ (f : List ℕ). list_any (λ (d : Definition). bytes_eq (folded d.name) f) stored) (folds a b e)

-- ---- what is found

some_same : (a b : Part) → Some a ≡ Some b → a ≡ b
some_same a b e = ap (λ o. unwrap_or o a) e

found_by : (P : Part → Type 0) (q : Part) (name : List ℕ) (test : Bool) (later : Option Part) (part : Part) → same_name q.name name ≡ test → P q → (later ≡ Some part → (same_name part.name name ≡ true) × P part)
    → cond test (Some q) later ≡ Some part → (same_name part.name name ≡ true) × P part
found_by P q name true later part is here behind e = subst (λ (p : Part). (same_name p.name name ≡ true) × P p) (some_same q part e) (is, here)
found_by P q name false later part is here behind e = behind e

-- what is found has the name, and what holds of all holds of it
pub found_all : (P : Part → Type 0) (parts : List Part) (name : List ℕ) (part : Part) → AllByRecursion P parts → dataset_named parts name ≡ Some part → (same_name part.name name ≡ true) × P part
found_all P [] name part all e = cc
found_all P (q ∷ qs) name part all e = found_by P q name (same_name q.name name) (dataset_named qs name) part refl all.0 (found_all P qs name part all.1) e

-- ---- what is new

is_new_by : (stored : List Definition) (q : Part) (name : List ℕ) → same_name q.name name ≡ true → is_stored stored name ≡ false → is_new stored q ≡ true
is_new_by stored q name same none = ap not (stored_alike stored q.name name same ∙ none)

kept_by : (stored : List Definition) (name : List ℕ) (q : Part) (qs : List Part) (test new : Bool) → same_name q.name name ≡ test → (test ≡ true → new ≡ true) → dataset_named (filter (is_new stored) qs) name ≡ dataset_named qs name
    → dataset_named (cond new (q ∷ filter (is_new stored) qs) (filter (is_new stored) qs)) name ≡ cond test (Some q) (dataset_named qs name)
kept_by stored name q qs test true is keeps rest = ap (λ t. cond t (Some q) (dataset_named (filter (is_new stored) qs) name)) is ∙ ap (λ o. cond test (Some q) o) rest
kept_by stored name q qs true false is keeps rest = let never : false ≡ true = keeps refl in cc
kept_by stored name q qs false false is keeps rest = rest

new_found : (stored : List Definition) (name : List ℕ) → is_stored stored name ≡ false → (plan : List Part) → dataset_named (filter (is_new stored) plan) name ≡ dataset_named plan name
new_found stored name none [] = refl
new_found stored name none (q ∷ qs) = kept_by stored name q qs (same_name q.name name) (is_new stored q) refl (λ same. is_new_by stored q name same none) (new_found stored name none qs)

-- ---- a store that stands

some_either : (b : Bool) (part : Part) (o : Option Part) → (b || is_some o) ≡ is_some (cond b (Some part) o)
some_either true part o = refl
some_either false part o = refl

some_alike : (b c : Bool) (d : Dataset) (part : Part) (o : Option Dataset) (p : Option Part) → b ≡ c → is_some o ≡ is_some p → is_some (cond b (Some d) o) ≡ is_some (cond c (Some part) p)
some_alike true true d part o p e rest = refl
some_alike true false d part o p e rest = cc
some_alike false true d part o p e rest = cc
some_alike false false d part o p e rest = rest

module _ (ever : List LandingFile) (whole : State) where
  pub stored_is : (parts : List Part) (state : State) (name : List ℕ) → AllStand ever whole parts state → is_stored (definitions_of state) name ≡ is_some (dataset_named parts name)
  stored_is [] [] name all = refl
  stored_is [] (d ∷ ds) name all = absurd all
  stored_is (p ∷ ps) [] name all = absurd all
  stored_is (p ∷ ps) (d ∷ ds) name all =
      ap (λ (n : List ℕ). same_name n name || is_stored (definitions_of ds) name) all.0.is_of.name ∙ ap (λ b. same_name p.name name || b) (stored_is ps ds name all.1) ∙ some_either (same_name p.name name) p (dataset_named ps name)

  pub dataset_is : (parts : List Part) (state : State) (name : List ℕ) → AllStand ever whole parts state → is_some (dataset_of state name) ≡ is_some (dataset_named parts name)
  dataset_is [] [] name all = refl
  dataset_is [] (d ∷ ds) name all = absurd all
  dataset_is (p ∷ ps) [] name all = absurd all
  dataset_is (p ∷ ps) (d ∷ ds) name all =
      some_alike (same_name d.definition.name name) (same_name p.name name) d p (dataset_of ds name) (dataset_named ps name) (ap (λ (n : List ℕ). same_name n name) all.0.is_of.name) (dataset_is ps ds name all.1)

-- ---- with what is new of a plan

agree_by : (plan parts : List Part) (stored : List Definition) (name : List ℕ) (o : Option Part) → AreOfPlan plan parts → is_stored stored name ≡ is_some (dataset_named parts name) → dataset_named parts name ≡ o
    → option_or o (dataset_named (filter (is_new stored) plan) name) ≡ dataset_named plan name
agree_by plan parts stored name None are same is = new_found stored name (same ∙ ap is_some is) plan
agree_by plan parts stored name (Some part) are same is =
    let found = found_all (λ (p : Part). dataset_named plan p.name ≡ Some p) parts name part are is in
    sym found.1 ∙ named_alike plan part.name name found.0

-- under each name stands what the plan has under it
pub agree : (plan parts : List Part) (stored : List Definition) (name : List ℕ) → AreOfPlan plan parts → is_stored stored name ≡ is_some (dataset_named parts name) → dataset_named (parts ++ filter (is_new stored) plan) name ≡ dataset_named plan name
agree plan parts stored name are same =
    find-append (λ (part : Part). same_name part.name name) parts (filter (is_new stored) plan) ∙ agree_by plan parts stored name (dataset_named parts name) are same refl
