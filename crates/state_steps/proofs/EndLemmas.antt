-- A commit leaves at its end what a dataset of its level or of a lesser one reads.
use Rattle.std.proofs.Common.{◌≡◌, inl, inr, ℕ, ◌<◌, ◌≤◌, List, [], ◌∷◌, Bool, true, false, cond, Option, Some, None, refl, sym, ap, ◌∙◌, subst, arith}
use Rattle.std.specs.Prelude.{bytes_eq, find, IsSomeAnd}
use Rattle.std.proofs.lemmas.Slice.Eq.{bytes_eq-Decides}
use Rattle.value_core.specs.declared.cursor.Cursor.{Cursor}
use Rattle.value_core.specs.declared.cursor.Cursor.TheVariants.{Files, At}
use Rattle.value_core.specs.NameFold.{folded, same_name}
use Rattle.landing_core.specs.declared.landing.LandingFile.{LandingFile}
use Rattle.plan_core.specs.declared.flow.Origin.{Origin}
use Rattle.plan_core.specs.declared.flow.Origin.TheVariants as origin
use Rattle.plan_core.specs.declared.plan.Dataset.{Dataset as Part}
use Rattle.plan_core.specs.Sound.{dataset_named}
use Rattle.state_model.specs.After.{updated}
use Rattle.state_model.specs.Dataset.{Dataset, State, dataset_of, is_named, version_of}
use Rattle.state_steps.specs.Fresh.{IsAtEnd, Landed, ReadsBelow}
use Rattle.state_steps.specs.Stands.{Stands}
use Rattle.state_steps.specs.Steps.{IsFound}
use Rattle.state_steps.proofs.Lookups.{found_after, some_same}

-- what is found under a name has it
named_by : (name : List ℕ) (d : Dataset) (ds : State) (old : Dataset) (here : Bool) → is_named name d ≡ here → (dataset_of ds name ≡ Some old → is_named name old ≡ true) → cond here (Some d) (dataset_of ds name) ≡ Some old → is_named name old ≡ true
named_by name d ds old true is behind e = subst (λ w. is_named name w ≡ true) (some_same d old e) is
named_by name d ds old false is behind e = behind e

pub has_name : (name : List ℕ) (state : State) (old : Dataset) → dataset_of state name ≡ Some old → is_named name old ≡ true
has_name name [] old e = cc
has_name name (d ∷ ds) old e = named_by name d ds old (is_named name d) refl (has_name name ds old) e

pub folded_is : (a b : List ℕ) → same_name a b ≡ true → folded a ≡ folded b
folded_is a b e = (bytes_eq-Decides (folded a) (folded b)).0 e

-- names that fold to one name find one part
pub one_part : (parts : List Part) (a b : List ℕ) → folded a ≡ folded b → dataset_named parts a ≡ dataset_named parts b
one_part parts a b e = ap (λ (f : List ℕ). find (λ (part : Part). bytes_eq (folded part.name) f) parts) e

some_end : (o p : Option Dataset) (v : ℕ) → ((old : Dataset) → o ≡ Some old → p ≡ Some old) → IsSomeAnd o (λ source. v ≡ version_of source) → IsSomeAnd p (λ source. v ≡ version_of source)
some_end None p v go h = absurd h
some_end (Some old) p v go h = subst (λ q. IsSomeAnd q (λ source. v ≡ version_of source)) (sym (go old refl)) h

module _ (landed : Landed) (parts : List Part) (ever : List LandingFile) (state : State) (stands : Stands parts ever state) (f : Dataset → Dataset) (same : (d : Dataset) → (f d).definition ≡ d.definition) (name : List ℕ) (part : Part)
    (target : Dataset) (found : IsFound parts state name part target) where
  -- the dataset of a name of a lesser level is not the target
  stays : (level : ℕ) → level ≤ part.level → (other : List ℕ) → (source : Part) → dataset_named parts other ≡ Some source → source.level < level → (old : Dataset) → dataset_of state other ≡ Some old
      → dataset_of (updated name f state) other ≡ Some old
  stays level h other source is lesser old e =
      elim (found_after f same name other state old e) [
        | inl k ↦ k
        | inr k ↦
            let one_name : folded other ≡ folded name = sym (folded_is old.definition.name other (has_name other state old e)) ∙ folded_is old.definition.name name (has_name name state old k.1) in
            let one : source ≡ part = some_same source part (sym is ∙ one_part parts other name one_name ∙ found.part_is) in
            let levels : source.level ≡ part.level = ap (λ (p : Part). p.level) one in
            absurd (omega (arith, levels))
      ]

  pub end_stays : (level : ℕ) → level ≤ part.level → (from : Origin) (cursor : Cursor) → ReadsBelow parts level from → IsAtEnd landed state from cursor → IsAtEnd landed (updated name f state) from cursor
  end_stays level h (origin.Files dir shape) (Files places) below ends = ends
  end_stays level h (origin.Table other) (At v) below ends = some_end (dataset_of state other) (dataset_of (updated name f state) other) v (stays level h other below.0 below.1 below.2) ends
  end_stays level h from cursor below ends = absurd ends
