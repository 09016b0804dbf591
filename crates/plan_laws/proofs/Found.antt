-- Where names differ, a name finds what has it.
use Rattle.std.proofs.Common.{◌≡◌, inl, inr, ℕ, zero, suc, arith, not, AllPairs, IsTrue, Bool, true, false, cond, List, [], ◌∷◌, Option, Some, refl, sym, ap, subst, ◌∙◌}
use Rattle.std.specs.List.{AllByRecursion, find}
use Rattle.std.proofs.lemmas.List.Elements.{All-from_recursion}
use Rattle.value_core.specs.NameFold.{same_name}
use Rattle.plan_check.proofs.Visiting.{Among}
use Rattle.plan_laws.proofs.Apart.{all_among, one_name}

module _ {A : Type 0} (name_of : A → List ℕ) where
  abbrev pub IsUnlike : A → A → Type 0
  IsUnlike first other = same_name (name_of first) (name_of other) ≡ false

  -- none has the name of one before it
  abbrev pub AreUnlike : List A → Type 0
  AreUnlike [] = Unit {0}
  AreUnlike (first ∷ more) = AllByRecursion (IsUnlike first) more × AreUnlike more

  abbrev named : List A → List ℕ → Option A
  named xs name = find (λ x. same_name (name_of x) name) xs

  not_both : (b : Bool) → b ≡ true → b ≡ false → ⊥
  not_both b e f = cc

  found_if : (first found : A) (more : List A) (name : List ℕ) (here : Bool) → same_name (name_of first) name ≡ here → IsUnlike first found → same_name (name_of found) name ≡ true → named more name ≡ Some found →
      cond here (Some first) (named more name) ≡ Some found
  found_if first found more name true here differs has later =
      absurd (not_both (same_name (name_of first) (name_of found)) (one_name (name_of first) (name_of found) name here has) differs)
  found_if first found more name false here differs has later = later

  pub named_found : (xs : List A) (found : A) (name : List ℕ) → AreUnlike xs → Among found xs → same_name (name_of found) name ≡ true → named xs name ≡ Some found
  named_found [] found name differ m has = absurd m
  named_found (first ∷ more) found name differ (inl e) has =
      let here : same_name (name_of first) name ≡ true = subst (λ (x : A). same_name (name_of x) name ≡ true) e has in
      ap (λ (b : Bool). cond b (Some first) (named more name)) here ∙ ap Some (sym e)
  named_found (first ∷ more) found name differ (inr m) has =
      found_if first found more name (same_name (name_of first) name) refl (all_among (IsUnlike first) more differ.0 found m) has (named_found more found name differ.1 m has)

  -- so they differ pair by pair
  pub all_pairs : (xs : List A) → AreUnlike xs → AllPairs (λ (a b : A). IsTrue (not (same_name (name_of a) (name_of b)))) xs
  all_pairs [] differ i j d less within = absurd (omega (arith, within))
  all_pairs (first ∷ more) differ i zero d less within = absurd (omega (arith, less))
  all_pairs (first ∷ more) differ zero (suc j) d less within = ap not (All-from_recursion (IsUnlike first) more differ.0 j d (omega (arith, within)))
  all_pairs (first ∷ more) differ (suc i) (suc j) d less within = all_pairs more differ.1 i j d (omega (arith, less)) (omega (arith, within))
