-- Members of lists.
use Rattle.std.proofs.Common.{◌≡◌, ◌⊎◌, inl, inr, ℕ, zero, suc, ◌<◌, List, [], ◌∷◌, ◌++◌, Contains, Option, Some, None, length, get_or, map, refl, sym, ap, subst, ◌∙◌, arith}
use Rattle.std.specs.Prelude.{filter_map, flat_map, slice_get, slice_set, option_and_then, option_to_list}
use Rattle.std.specs.List.{cons_option}
use Rattle.column_checks.specs.ByName.{items_placed, taken_from}

abbrev pub Among : {A : Type 0} → A → List A → Type 0
Among x [] = ⊥
Among x (y ∷ more) = (x ≡ y) ⊎ Among x more

pub in_some : {A : Type 0} {x y : A} → Some x ≡ Some y → x ≡ y
in_some e = cc

pub no_some : {A : Type 0} {x : A} → None ≡ Some x → ⊥
no_some e = cc

-- ---- members by their index

pub among_at : {A : Type 0} (xs : List A) (index : ℕ) (x : A) → slice_get xs index ≡ Some x → Among x xs
among_at [] index x e = absurd (no_some e)
among_at (y ∷ more) zero x e = inl (sym (in_some e))
among_at (y ∷ more) (suc index) x e = inr (among_at more index x e)

pub at_among : {A : Type 0} (xs : List A) (x : A) → Among x xs → (index : ℕ) × (slice_get xs index ≡ Some x)
at_among [] x m = absurd m
at_among (y ∷ more) x (inl e) = (zero, ap Some (sym e))
at_among (y ∷ more) x (inr m) = let there = at_among more x m in (suc there.0, there.1)

by_index : {A : Type 0} (xs : List A) (x : A) (k : ℕ) → k < length xs → get_or xs k x ≡ x → Among x xs
by_index [] x k within e = absurd (omega arith)
by_index (y ∷ more) x zero within e = inl (sym e)
by_index (y ∷ more) x (suc k) within e = inr (by_index more x k (omega arith) e)

pub contains_among : {A : Type 0} (xs : List A) (x : A) → Contains xs x → Among x xs
contains_among xs x there = by_index xs x there.0 there.1 there.2

pub among_contains : {A : Type 0} (xs : List A) (x : A) → Among x xs → Contains xs x
among_contains [] x m = absurd m
among_contains (y ∷ more) x (inl e) = (zero, omega arith, sym e)
among_contains (y ∷ more) x (inr m) = let there = among_contains more x m in (suc there.0, omega (arith, there.1), there.2)

-- ---- members of lists that are made of others

pub among_append : {A : Type 0} (x : A) (xs ys : List A) → Among x (xs ++ ys) → Among x xs ⊎ Among x ys
among_append x [] ys m = inr m
among_append x (y ∷ more) ys (inl e) = inl (inl e)
among_append x (y ∷ more) ys (inr m) = elim (among_append x more ys m) [ inl n ↦ inl (inr n) | inr n ↦ inr n ]

pub among_left : {A : Type 0} (x : A) (xs ys : List A) → Among x xs → Among x (xs ++ ys)
among_left x [] ys m = absurd m
among_left x (y ∷ more) ys (inl e) = inl e
among_left x (y ∷ more) ys (inr m) = inr (among_left x more ys m)

pub among_right : {A : Type 0} (x : A) (xs ys : List A) → Among x ys → Among x (xs ++ ys)
among_right x [] ys m = m
among_right x (y ∷ more) ys m = inr (among_right x more ys m)

pub among_option : {A : Type 0} (o : Option A) (x : A) → Among x (option_to_list o) → o ≡ Some x
among_option None x m = absurd m
among_option (Some y) x (inl e) = ap Some (sym e)
among_option (Some y) x (inr m) = absurd m

pub option_among : {A : Type 0} (o : Option A) (x : A) → o ≡ Some x → Among x (option_to_list o)
option_among None x e = absurd (no_some e)
option_among (Some y) x e = inl (sym (in_some e))

pub among_flat : {A B : Type 0} (f : A → List B) (xs : List A) (y : B) → Among y (flat_map f xs) → (x : A) × Among x xs × Among y (f x)
among_flat f [] y m = absurd m
among_flat f (x ∷ more) y m =
    elim (among_append y (f x) (flat_map f more) m) [
      | inl here ↦ (x, inl refl, here)
      | inr later ↦ (let r = among_flat f more y later in (r.0, inr r.1, r.2))
    ]

pub flat_among : {A B : Type 0} (f : A → List B) (xs : List A) (x : A) (y : B) → Among x xs → Among y (f x) → Among y (flat_map f xs)
flat_among f [] x y m n = absurd m
flat_among f (z ∷ more) x y (inl e) n = among_left y (f z) (flat_map f more) (subst (λ (a : _). Among y (f a)) e n)
flat_among f (z ∷ more) x y (inr m) n = among_right y (f z) (flat_map f more) (flat_among f more x y m n)

behind_option : {A : Type 0} (o : Option A) (xs : List A) (x : A) → Among x xs → Among x (cons_option o xs)
behind_option None xs x m = m
behind_option (Some y) xs x m = inr m

pub found_among : {A B : Type 0} (f : A → Option B) (xs : List A) (x : A) (y : B) → Among x xs → f x ≡ Some y → Among y (filter_map f xs)
found_among f [] x y m e = absurd m
found_among f (z ∷ more) x y (inl same) e = subst (λ o. Among y (cons_option o (filter_map f more))) (sym e ∙ ap f same) (inl refl)
found_among f (z ∷ more) x y (inr m) e = behind_option (f z) (filter_map f more) y (found_among f more x y m e)

-- something among these gives it
abbrev Gives : {A B : Type 0} → (A → Option B) → List A → B → Type 0
Gives {A} f xs y = (x : A) × Among x xs × (f x ≡ Some y)

gives_more : {A B : Type 0} (f : A → Option B) (z : A) (more : List A) (y : B) → Gives f more y → Gives f (z ∷ more) y
gives_more f z more y r = (r.0, inr r.1, r.2)

given_by : {A B : Type 0} (f : A → Option B) (z : A) (more : List A) (y : B) (o : Option B) → f z ≡ o → (Among y (filter_map f more) → Gives f more y) → Among y (cons_option o (filter_map f more)) → Gives f (z ∷ more) y
given_by f z more y None e rest m = gives_more f z more y (rest m)
given_by f z more y (Some x) e rest (inl same) = (z, inl refl, e ∙ ap Some (sym same))
given_by f z more y (Some x) e rest (inr m) = gives_more f z more y (rest m)

pub among_found : {A B : Type 0} (f : A → Option B) (xs : List A) (y : B) → Among y (filter_map f xs) → Gives f xs y
among_found f [] y m = absurd m
among_found f (z ∷ more) y m = given_by f z more y (f z) refl (among_found f more y) m

-- ---- items in the order of places are among the items

slot_among : {A : Type 0} (slots : List (Option A)) (place : ℕ) (x : A) → option_and_then (λ slot. slot) (slice_get slots place) ≡ Some x → Among (Some x) slots
slot_among [] place x e = absurd (no_some e)
slot_among (slot ∷ more) zero x e = inl (sym e)
slot_among (slot ∷ more) (suc place) x e = inr (slot_among more place x e)

set_among : {A : Type 0} (slots : List (Option A)) (place : ℕ) (x : A) → Among (Some x) (slice_set slots place None) → Among (Some x) slots
set_among [] place x m = m
set_among (slot ∷ more) zero x (inl e) = absurd (no_some (sym e))
set_among (slot ∷ more) zero x (inr m) = inr m
set_among (slot ∷ more) (suc place) x (inl e) = inl e
set_among (slot ∷ more) (suc place) x (inr m) = inr (set_among more place x m)

taken_among : {A : Type 0} (slots : List (Option A)) (places : List ℕ) (x : A) → Among x (taken_from slots places) → Among (Some x) slots
taken_among slots [] x m = absurd m
taken_among slots (place ∷ more) x m =
    let slot = option_and_then (λ slot. slot) (slice_get slots place) in
    elim (among_append x (option_to_list slot) (taken_from (slice_set slots place None) more) m) [
      | inl here ↦ slot_among slots place x (among_option slot x here)
      | inr later ↦ set_among slots place x (taken_among (slice_set slots place None) more x later)
    ]

some_among : {A : Type 0} (xs : List A) (x : A) → Among (Some x) (map Some xs) → Among x xs
some_among [] x m = absurd m
some_among (y ∷ more) x (inl e) = inl (in_some e)
some_among (y ∷ more) x (inr m) = inr (some_among more x m)

pub placed_among : {A : Type 0} (items : List A) (places : List ℕ) (x : A) → Among x (items_placed items places) → Among x items
placed_among items places x m = some_among items x (taken_among (map Some items) places x m)
