-- Datasets by name, before and after a step.
use Rattle.std.proofs.Common.{◌≡◌, ◌⊎◌, inl, inr, Bool, true, false, cond, if◌then◌else◌, List, [], ◌∷◌, ℕ, Option, Some, None, refl, sym, ap, ◌∙◌, subst}
use Rattle.std.specs.Prelude.{unwrap_or, IsSomeAnd}
use Rattle.std.specs.Option.{option_map_or}
use Rattle.value_core.specs.NameFold.{same_name}
use Rattle.landing_core.specs.declared.landing.LandingFile.{LandingFile}
use Rattle.plan_core.specs.declared.plan.Dataset.{Dataset as Part}
use Rattle.plan_core.specs.Sound.{dataset_named}
use Rattle.state_model.specs.After.{updated}
use Rattle.state_model.specs.Dataset.{Dataset, State, content_at, dataset_of, is_named}
use Rattle.state_steps.specs.Consumed.{rows_of_table, IsKept}
use Rattle.state_steps.specs.Stands.{AllStand, DatasetStands}
use Rattle.state_steps.proofs.VersionLemmas.{IsMore, still_at}

pub some_same : {A : Type 0} (a b : A) → Some a ≡ Some b → a ≡ b
some_same a b e = ap (λ o. unwrap_or o a) e

-- a dataset that is found before is found after, and related
abbrev pub Goes : (Dataset → Dataset → Type 0) → State → State → List ℕ → Type 0
Goes R was now name = (old : Dataset) → dataset_of was name ≡ Some old → (new : Dataset) × (dataset_of now name ≡ Some new) × R old new

pub some_and : {A : Type 0} (R : A → A → Type 0) (P Q : A → Type 0) (o p : Option A) → ((a : A) → o ≡ Some a → (b : A) × (p ≡ Some b) × R a b) → ((a b : A) → R a b → P a → Q b) → IsSomeAnd o P → IsSomeAnd p Q
some_and R P Q None p go keeps h = absurd h
some_and R P Q (Some a) p go keeps h = let g = go a refl in subst (λ q. IsSomeAnd q Q) (sym g.1) (keeps a g.0 g.2 h)

some_rows : (o p : Option Dataset) (v : ℕ) → ((a : Dataset) → o ≡ Some a → (b : Dataset) × (p ≡ Some b) × IsMore a b) → IsSomeAnd o (IsKept v) → option_map_or (λ d. content_at d v) p [] ≡ option_map_or (λ d. content_at d v) o []
some_rows None p v go h = absurd h
some_rows (Some a) p v go h = let g = go a refl in ap (λ q. option_map_or (λ d. content_at d v) q []) g.1 ∙ still_at v a g.0 g.2 h

-- rows at a kept version stay
pub rows_stay : (was now : State) (name : List ℕ) (v : ℕ) → Goes IsMore was now name → IsSomeAnd (dataset_of was name) (IsKept v) → rows_of_table now name v ≡ rows_of_table was name v
rows_stay was now name v go h = some_rows (dataset_of was name) (dataset_of now name) v go h

-- ---- a dataset that is updated

abbrev Found : State → State → List ℕ → List ℕ → (Dataset → Dataset) → Dataset → Type 0
Found was now name other f old = (dataset_of now other ≡ Some old) ⊎ ((dataset_of now other ≡ Some (f old)) × (dataset_of was name ≡ Some old))

module _ (f : Dataset → Dataset) (same : (d : Dataset) → (f d).definition ≡ d.definition) (name other : List ℕ) where
  found_by : (d : Dataset) (ds : State) (here there : Bool) → is_named name d ≡ here → is_named other d ≡ there
      → ((old : Dataset) → dataset_of ds other ≡ Some old → Found ds (updated name f ds) name other f old)
      → (old : Dataset) → cond there (Some d) (dataset_of ds other) ≡ Some old
      → (dataset_of (if here then f d ∷ ds else d ∷ updated name f ds) other ≡ Some old)
      ⊎ ((dataset_of (if here then f d ∷ ds else d ∷ updated name f ds) other ≡ Some (f old)) × (cond here (Some d) (dataset_of ds name) ≡ Some old))
  found_by d ds true true is_here is_there behind old e =
      let one : d ≡ old = some_same d old e in
      inr (ap (λ (b : Bool). cond b (Some (f d)) (dataset_of ds other)) (ap (λ k. same_name k.name other) (same d) ∙ is_there) ∙ ap (λ w. Some (f w)) one, e)
  found_by d ds true false is_here is_there behind old e =
      inl (ap (λ (b : Bool). cond b (Some (f d)) (dataset_of ds other)) (ap (λ k. same_name k.name other) (same d) ∙ is_there) ∙ e)
  found_by d ds false true is_here is_there behind old e = inl (ap (λ (b : Bool). cond b (Some d) (dataset_of (updated name f ds) other)) is_there ∙ e)
  found_by d ds false false is_here is_there behind old e =
      elim (behind old e) [
        | inl h ↦ inl (ap (λ (b : Bool). cond b (Some d) (dataset_of (updated name f ds) other)) is_there ∙ h)
        | inr h ↦ inr (ap (λ (b : Bool). cond b (Some d) (dataset_of (updated name f ds) other)) is_there ∙ h.0, h.1)
      ]

  pub found_after : (state : State) (old : Dataset) → dataset_of state other ≡ Some old → Found state (updated name f state) name other f old
  found_after [] old e = cc
  found_after (d ∷ ds) old e =
      let go = found_by d ds (is_named name d) (is_named other d) refl refl (found_after ds) old e in go

-- ---- parts and datasets side by side

module _ (ever : List LandingFile) (whole : State) where
  paired_by : (name : List ℕ) (p : Part) (ps : List Part) (d : Dataset) (ds : State) (here : Bool) → same_name p.name name ≡ here → DatasetStands ever whole p d
      → ((found : Dataset) → dataset_of ds name ≡ Some found → (part : Part) × (dataset_named ps name ≡ Some part) × DatasetStands ever whole part found)
      → (found : Dataset) → cond here (Some d) (dataset_of ds name) ≡ Some found → (part : Part) × (cond here (Some p) (dataset_named ps name) ≡ Some part) × DatasetStands ever whole part found
  paired_by name p ps d ds true is stands behind found e = (p, refl, subst (λ w. DatasetStands ever whole p w) (some_same d found e) stands)
  paired_by name p ps d ds false is stands behind found e = behind found e

  -- the parts of a dataset that is found are found by the same name
  pub paired : (parts : List Part) (state : State) (name : List ℕ) → AllStand ever whole parts state → (found : Dataset) → dataset_of state name ≡ Some found
      → (part : Part) × (dataset_named parts name ≡ Some part) × DatasetStands ever whole part found
  paired [] [] name all found e = cc
  paired [] (d ∷ ds) name all found e = absurd all
  paired (p ∷ ps) [] name all found e = absurd all
  paired (p ∷ ps) (d ∷ ds) name all found e =
      paired_by name p ps d ds (same_name p.name name) refl all.0 (paired ps ds name all.1) found
      (ap (λ (k : List ℕ). cond (same_name k name) (Some d) (dataset_of ds name)) (sym all.0.is_of.name) ∙ e)
