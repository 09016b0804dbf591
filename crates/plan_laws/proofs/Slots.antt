-- Items that are taken from slots, each once.
use Rattle.std.proofs.Common.{◌≡◌, inl, inr, ℕ, zero, suc, Bool, true, false, List, [], ◌∷◌, ◌++◌, map, Option, Some, None, refl, sym, ap, subst, ◌∙◌, eqb-true}
use Rattle.std.specs.Prelude.{nat_eq, slice_set, option_to_list}
use Rattle.std.proofs.lemmas.Bool.{eqb-false}
use Rattle.column_checks.specs.ByName.{slot_left, taken_from}
use Rattle.plan_check.proofs.Visiting.{Among}
use Rattle.plan_laws.proofs.Apart.{among_back, among_either}

-- a slot keeps what it has where another one is emptied
pub other_slot : {A : Type 0} (slots : List (Option A)) (taken index : ℕ) → (index ≡ taken → ⊥) → slot_left (slice_set slots taken None) index ≡ slot_left slots index
other_slot [] taken index differ = refl
other_slot (first ∷ more) zero zero differ = absurd (differ refl)
other_slot (first ∷ more) zero (suc index) differ = refl
other_slot (first ∷ more) (suc taken) zero differ = refl
other_slot (first ∷ more) (suc taken) (suc index) differ = other_slot more taken index (λ e. differ (ap suc e))

-- ---- what is taken is in a slot

still_there : {A : Type 0} (slots : List (Option A)) (taken index : ℕ) (a : A) → slot_left (slice_set slots taken None) index ≡ Some a → slot_left slots index ≡ Some a
still_there [] taken index a e = absurd (cc)
still_there (first ∷ more) zero zero a e = absurd (cc)
still_there (first ∷ more) zero (suc index) a e = e
still_there (first ∷ more) (suc taken) zero a e = e
still_there (first ∷ more) (suc taken) (suc index) a e = still_there more taken index a e

-- it is in a slot
abbrev pub IsLeft : {A : Type 0} → List (Option A) → A → Type 0
IsLeft slots a = (index : ℕ) × (slot_left slots index ≡ Some a)

from_slot : {A : Type 0} (slots : List (Option A)) (index : ℕ) (found : Option A) (a : A) → slot_left slots index ≡ found → Among a (option_to_list found) → IsLeft slots a
from_slot slots index None a is m = absurd m
from_slot slots index (Some b) a is (inl e) = (index, is ∙ ap Some (sym e))
from_slot slots index (Some b) a is (inr m) = absurd m

pub taken_left : {A : Type 0} (slots : List (Option A)) (indexes : List ℕ) (a : A) → Among a (taken_from slots indexes) → IsLeft slots a
taken_left slots [] a m = absurd m
taken_left slots (index ∷ more) a m = elim (among_either a (option_to_list (slot_left slots index)) (taken_from (slice_set slots index None) more) m) [
  | inl n ↦ from_slot slots index (slot_left slots index) a refl n
  | inr n ↦ let later = taken_left (slice_set slots index None) more a n in (later.0, still_there slots index later.0 a later.1)
]

pub left_among : {A : Type 0} (items : List A) (index : ℕ) (a : A) → slot_left (map Some items) index ≡ Some a → Among a items
left_among [] index a e = absurd (cc)
left_among (first ∷ more) zero a e = let same : first ≡ a = cc in inl (sym same)
left_among (first ∷ more) (suc index) a e = inr (left_among more index a e)

-- ---- what is in a slot is taken

pub here_first : {A : Type 0} (found : Option A) (a : A) (rest : List A) → found ≡ Some a → Among a (option_to_list found ++ rest)
here_first None a rest is = absurd (cc)
here_first (Some b) a rest is = let same : b ≡ a = cc in inl (sym same)

taken_by : {A : Type 0} (slots : List (Option A)) (first : ℕ) (more : List ℕ) (index : ℕ) (a : A) (here : Bool) → nat_eq index first ≡ here → slot_left slots index ≡ Some a →
    (slot_left (slice_set slots first None) index ≡ Some a → Among a (taken_from (slice_set slots first None) more)) → Among a (taken_from slots (first ∷ more))
taken_by slots first more index a true here is rest =
    here_first (slot_left slots first) a (taken_from (slice_set slots first None) more) (subst (λ (i : ℕ). slot_left slots i ≡ Some a) (eqb-true index first here) is)
taken_by slots first more index a false here is rest =
    among_back a (option_to_list (slot_left slots first)) (taken_from (slice_set slots first None) more) (rest (other_slot slots first index (eqb-false index first here) ∙ is))

pub taken_among : {A : Type 0} (slots : List (Option A)) (indexes : List ℕ) (index : ℕ) (a : A) → Among index indexes → slot_left slots index ≡ Some a → Among a (taken_from slots indexes)
taken_among slots [] index a m is = absurd m
taken_among slots (first ∷ more) index a (inl e) is = here_first (slot_left slots first) a (taken_from (slice_set slots first None) more) (subst (λ (i : ℕ). slot_left slots i ≡ Some a) e is)
taken_among slots (first ∷ more) index a (inr m) is = taken_by slots first more index a (nat_eq index first) refl is (taken_among (slice_set slots first None) more index a m)
