-- Two lists of places with equal statements, place by place.
use Rattle.std.proofs.Common.{◌≡◌, inl, inr, ℕ, List, [], ◌∷◌, Option, Some, refl, sym, ap, ◌∙◌}
use Rattle.std.specs.Prelude.{filter_map, slice_get}
use Rattle.std.specs.List.{cons_option}
use Rattle.sql_tree.specs.declared.statement.Statement.{Statement}
use Rattle.dataset_checks.specs.Filling.{fillers_from}
use Rattle.plan_texts.proofs.Declared.{filler}
use Rattle.plan_texts.proofs.Lists.{Among}

-- each of these places has a statement
abbrev pub AreThere : List Statement → List ℕ → Type 0
AreThere statements [] = Unit {0}
AreThere statements (place ∷ more) = ((one : Statement) × (slice_get statements place ≡ Some one)) × AreThere statements more

there_each : (statements : List Statement) (places : List ℕ) → ((place : ℕ) → Among place places → (one : Statement) × (slice_get statements place ≡ Some one)) → AreThere statements places
there_each statements [] each = tt
there_each statements (place ∷ more) each = (each place (inl refl), there_each statements more (λ p m. each p (inr m)))

-- the places of flows have statements
pub fillers_there : (table : List ℕ) (statements : List Statement) → AreThere statements (fillers_from table 0 statements)
fillers_there table statements = there_each statements (fillers_from table 0 statements) (λ place m. let f = filler table statements place m in (f.statement, f.is_there))

-- it holds of the places of two lists one by one
abbrev pub Each : (ℕ → ℕ → Type 0) → List ℕ → List ℕ → Type 0
Each P [] [] = Unit {0}
Each P [] (other ∷ more) = ⊥
Each P (place ∷ places) [] = ⊥
Each P (place ∷ places) (other ∷ more) = P place other × Each P places more

heads : (a b : Statement) (xs ys : List Statement) → a ∷ xs ≡ b ∷ ys → (a ≡ b) × (xs ≡ ys)
heads a b xs ys e = (cc, cc)

none_one : (a : Statement) (xs : List Statement) → a ∷ xs ≡ [] → ⊥
none_one a xs e = cc

shown : (statements : List Statement) (place : ℕ) (one : Statement) (more : List ℕ) → slice_get statements place ≡ Some one → filter_map (slice_get statements) (place ∷ more) ≡ one ∷ filter_map (slice_get statements) more
shown statements place one more e = ap (λ (o : Option Statement). cons_option o (filter_map (slice_get statements) more)) e

-- the first of equal statements at places are equal
pub first_same : (first second : List Statement) (place other : ℕ) (places more : List ℕ) (a b : Statement) → slice_get first place ≡ Some a → slice_get second other ≡ Some b →
    filter_map (slice_get first) (place ∷ places) ≡ filter_map (slice_get second) (other ∷ more) → (a ≡ b) × (filter_map (slice_get first) places ≡ filter_map (slice_get second) more)
first_same first second place other places more a b is_a is_b same =
    heads a b (filter_map (slice_get first) places) (filter_map (slice_get second) more) (sym (shown first place a places is_a) ∙ same ∙ shown second other b more is_b)

module _ (first second : List Statement) (P : ℕ → ℕ → Type 0) where
  -- it holds of each two places with one statement, and so of the places of equal lists of statements
  pub paired : (places others : List ℕ) → AreThere first places → AreThere second others → filter_map (slice_get first) places ≡ filter_map (slice_get second) others →
      ((place other : ℕ) (one : Statement) → Among place places → Among other others → slice_get first place ≡ Some one → slice_get second other ≡ Some one → P place other) → Each P places others
  paired [] [] there here same each = tt
  paired [] (other ∷ more) there here same each = absurd (none_one here.0.0 (filter_map (slice_get second) more) (sym (shown second other here.0.0 more here.0.1) ∙ sym same))
  paired (place ∷ places) [] there here same each = absurd (none_one there.0.0 (filter_map (slice_get first) places) (sym (shown first place there.0.0 places there.0.1) ∙ same))
  paired (place ∷ places) (other ∷ more) there here same each =
      let both = first_same first second place other places more there.0.0 here.0.0 there.0.1 here.0.1 same in
      (each place other there.0.0 (inl refl) (inl refl) there.0.1 (here.0.1 ∙ ap Some (sym both.0)), paired places more there.1 here.1 both.1 (λ p q one m n e f. each p q one (inr m) (inr n) e f))
