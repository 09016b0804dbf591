-- An update is accepted exactly where nothing refuses it.
use Rattle.std.proofs.Common.{◌≡◌, ◌↔◌, ℕ, List, [], ◌∷◌, Bool, true, false, cond, Option, Some, None, refl, sym, ap, ◌∙◌, subst}
use Rattle.std.specs.Prelude.{⊤, bytes_eq, is_none, IsSomeAnd}
use Rattle.std.specs.List.{AllByRecursion}
use Rattle.std.specs.Option.{option_map_or, option_or}
use Rattle.std.proofs.lemmas.Slice.Eq.{bytes_eq-Decides}
use Rattle.commit_payloads.specs.declared.definition.Definition.{Definition}
use Rattle.landing_core.specs.declared.landing.LandingFile.{LandingFile}
use Rattle.plan_core.specs.declared.plan.Dataset.{Dataset as Part}
use Rattle.plan_core.specs.Sound.{dataset_named}
use Rattle.state_model.specs.Dataset.{State, definitions_of}
use Rattle.state_steps.specs.Stands.{AllStand, Stands}
use Rattle.update_plan.specs.declared.ends.PlanEnd.{PlanEnd}
use Rattle.update_plan.specs.declared.ends.PlanEnd.TheVariants as why
use Rattle.update_plan.specs.declared.ends.Refresh.{Refresh}
use Rattle.update_plan.specs.declared.ends.Refresh.TheVariants as refresh
use Rattle.update_plan.specs.Commits.{AreOfPlan, IsAccepted, IsDeclared, IsOfPlan, IsUnchanged, TextsTell}
use Rattle.update_plan.specs.Refusals.{first_unknown, first_unlike, if_changed, if_unknown, if_unlike, refusal, removed}

both_none : (one two : Option PlanEnd) → (option_or one two ≡ None) ↔ ((one ≡ None) × (two ≡ None))
both_none None two = (λ e. (refl, e), λ e. e.1)
both_none (Some end) two = (λ e. cc, λ e. e.0)

known_by : (name : List ℕ) (o : Option Part) → (cond (is_none o) (Some (why.UnknownTable name)) None ≡ None) ↔ IsSomeAnd o (λ part. ⊤)
known_by name None = (λ e. cc, λ h. absurd h)
known_by name (Some part) = (λ e. tt, λ h. refl)

known : (plan : List Part) (names : List (List ℕ)) → (first_unknown plan names ≡ None) ↔ AllByRecursion (IsDeclared plan) names
known plan [] = (λ e. tt, λ h. refl)
known plan (name ∷ names) =
    let one = known_by name (dataset_named plan name) in
    let more = known plan names in
    let both = both_none (if_unknown plan name) (first_unknown plan names) in
    (λ e. (one.0 (both.0 e).0, more.0 (both.0 e).1), λ h. both.1 (one.1 h.0, more.1 h.1))

same_by : (definition : Definition) (part : Part) (b : Bool) → bytes_eq definition.text part.text ≡ b → (cond b None (Some (why.Changed definition.name definition.text part.text)) ≡ None) ↔ (definition.text ≡ part.text)
same_by definition part true is = (λ e. (bytes_eq-Decides definition.text part.text).0 is, λ e. refl)
same_by definition part false is = (λ e. cc, λ e. let t : bytes_eq definition.text part.text ≡ true = (bytes_eq-Decides definition.text part.text).1 e in cc)

alike_by : (definition : Definition) (o : Option Part) → (option_map_or (if_changed definition) o (removed definition) ≡ None) ↔ IsSomeAnd o (λ part. definition.text ≡ part.text)
alike_by definition None = (λ e. cc, λ h. absurd h)
alike_by definition (Some part) = same_by definition part (bytes_eq definition.text part.text) refl

alike : (plan : List Part) (stored : List Definition) → (first_unlike plan stored ≡ None) ↔ AllByRecursion (IsUnchanged plan) stored
alike plan [] = (λ e. tt, λ h. refl)
alike plan (definition ∷ list) =
    let one = alike_by definition (dataset_named plan definition.name) in
    let more = alike plan list in
    let both = both_none (if_unlike plan definition) (first_unlike plan list) in
    (λ e. (one.0 (both.0 e).0, more.0 (both.0 e).1), λ h. both.1 (one.1 h.0, more.1 h.1))

pub accepted : (plan : List Part) (stored : List Definition) (what : Refresh) → (refusal plan stored what ≡ None) ↔ IsAccepted plan stored what
accepted plan stored refresh.Nothing = alike plan stored
accepted plan stored refresh.All = (λ e. tt, λ h. refl)
accepted plan stored (refresh.Only names) =
    let one = known plan names in
    let more = alike plan stored in
    let both = both_none (first_unknown plan names) (first_unlike plan stored) in
    (λ e. (one.0 (both.0 e).0, more.0 (both.0 e).1), λ h. both.1 (one.1 h.0, more.1 h.1))

-- ---- a store that stands

found_by : (plan : List Part) (p : Part) (text : List ℕ) (o : Option Part) → dataset_named plan p.name ≡ o → text ≡ p.text → ((other : Part) → dataset_named plan p.name ≡ Some other → p.text ≡ other.text → other ≡ p)
    → IsSomeAnd o (λ part. text ≡ part.text) → dataset_named plan p.name ≡ Some p
found_by plan p text None is same tells h = absurd h
found_by plan p text (Some q) is same tells h = is ∙ ap Some (tells q is (sym same ∙ h))

module _ (plan : List Part) (ever : List LandingFile) (whole : State) where
  of_plan : (parts : List Part) (state : State) → AllStand ever whole parts state → AllByRecursion (IsUnchanged plan) (definitions_of state) → TextsTell plan parts → AreOfPlan plan parts
  of_plan [] state all unchanged tells = tt
  of_plan (p ∷ ps) [] all unchanged tells = absurd all
  of_plan (p ∷ ps) (d ∷ ds) all unchanged tells = (
    found_by plan p d.definition.text (dataset_named plan p.name) refl all.0.is_of.text tells.0
        (subst (λ (name : List ℕ). IsSomeAnd (dataset_named plan name) (λ part. d.definition.text ≡ part.text)) all.0.is_of.name unchanged.0),
    of_plan ps ds all.1 unchanged.1 tells.1,
  )

pub store_is_of_plan : (plan parts : List Part) (ever : List LandingFile) (state : State) (what : Refresh) → Stands parts ever state → TextsTell plan parts → refusal plan (definitions_of state) what ≡ None → IsOfPlan plan parts what
store_is_of_plan plan parts ever state refresh.Nothing stands tells e = of_plan plan ever state parts state stands.each ((alike plan (definitions_of state)).0 e) tells
store_is_of_plan plan parts ever state refresh.All stands tells e = tt
store_is_of_plan plan parts ever state (refresh.Only names) stands tells e =
    of_plan plan ever state parts state stands.each ((alike plan (definitions_of state)).0 ((both_none (first_unknown plan names) (first_unlike plan (definitions_of state))).0 e).1) tells
