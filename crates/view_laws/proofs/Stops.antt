-- What a walk along rows in order comes upon first.
use Rattle.std.proofs.Common.{◌≡◌, ℕ, ◌+◌, Bool, true, false, cond, List, [], ◌∷◌, ◌++◌, filter, filter_map, Option, Some, None, refl, sym, ap, ◌∙◌, arith}
use Rattle.std.specs.List.{flat_map, cons_option, slice_get}
use Rattle.std.specs.Option.{option_to_list}
use Rattle.std.specs.Ordering.{is_gt}
use Rattle.value_core.specs.Bags.{count_of, IsLeast, IsInOrder}
use Rattle.value_core.specs.Order.{Row, row_order, same_row}
use Rattle.value_core.specs.OrderLaws.{rows_apart}
use Rattle.std.specs.Cmp.{Equal-is}
use Rattle.value_core.proofs.BagLemmas.{count-cons, one_order}
use Rattle.view_laws.proofs.Groups.{count-filter}

-- whether a list has an item
abbrev pub loud : {A : Type 0} → List A → Bool
loud [] = false
loud (x ∷ xs) = true

-- ---- a part of a list in order is in order

least-filter-by : (p : Row → Bool) (x y : Row) (ys : List Row) (test : Bool) → is_gt (row_order x y) ≡ false → IsLeast x (filter p ys) → IsLeast x (cond test (y ∷ filter p ys) (filter p ys))
least-filter-by p x y ys true h behind = (h, behind)
least-filter-by p x y ys false h behind = behind

least-filter : (p : Row → Bool) (x : Row) (ys : List Row) → IsLeast x ys → IsLeast x (filter p ys)
least-filter p x [] l = tt
least-filter p x (y ∷ ys) l = least-filter-by p x y ys (p y) l.0 (least-filter p x ys l.1)

order-filter-by : (p : Row → Bool) (x : Row) (xs : List Row) (test : Bool) → IsLeast x (filter p xs) → IsInOrder (filter p xs) → IsInOrder (cond test (x ∷ filter p xs) (filter p xs))
order-filter-by p x xs true l s = (l, s)
order-filter-by p x xs false l s = s

pub order-filter : (p : Row → Bool) (xs : List Row) → IsInOrder xs → IsInOrder (filter p xs)
order-filter p [] s = tt
order-filter p (x ∷ xs) s = order-filter-by p x xs (p x) (least-filter p x xs s.0) (order-filter p xs s.1)

-- ---- only the rows that give something count

loud-only-by : {S : Type 0} (h : Row → List S) (x : Row) (xs : List Row) (given : List S) → h x ≡ given → flat_map h xs ≡ flat_map h (filter (λ a. loud (h a)) xs)
    → given ++ flat_map h xs ≡ flat_map h (cond (loud given) (x ∷ filter (λ a. loud (h a)) xs) (filter (λ a. loud (h a)) xs))
loud-only-by h x xs [] e behind = behind
loud-only-by h x xs (s ∷ ss) e behind = ap (λ given. given ++ flat_map h xs) (sym e) ∙ ap (λ rest. h x ++ rest) behind

loud-only : {S : Type 0} (h : Row → List S) (xs : List Row) → flat_map h xs ≡ flat_map h (filter (λ a. loud (h a)) xs)
loud-only h [] = refl
loud-only h (x ∷ xs) = loud-only-by h x xs (h x) refl (loud-only h xs)

where-loud : (n k : ℕ) (test : Bool) → (test ≡ true → n ≡ k) → cond test n 0 ≡ cond test k 0
where-loud n k true e = e refl
where-loud n k false e = refl

-- two lists in order that hold those rows equally often give the same
pub same_stops : {S : Type 0} (h : Row → List S) (xs ys : List Row) → IsInOrder xs → IsInOrder ys → ((a : Row) → loud (h a) ≡ true → count_of a xs ≡ count_of a ys) → flat_map h xs ≡ flat_map h ys
same_stops h xs ys s t same =
    let p = λ (a : Row). loud (h a) in
    let filtered : filter p xs ≡ filter p ys = one_order (filter p xs) (filter p ys) (order-filter p xs s) (order-filter p ys t)
    (λ a. count-filter p a xs ∙ where-loud (count_of a xs) (count_of a ys) (p a) (same a) ∙ sym (count-filter p a ys)) in
    loud-only h xs ∙ ap (flat_map h) filtered ∙ sym (loud-only h ys)

-- ---- where nothing is given, no row gives anything

no_front : {S : Type 0} (xs ys : List S) → xs ++ ys ≡ [] → loud xs ≡ false
no_front [] ys e = refl
no_front (x ∷ xs) ys e = cc

no_back : {S : Type 0} (xs ys : List S) → xs ++ ys ≡ [] → ys ≡ []
no_back [] ys e = e
no_back (x ∷ xs) ys e = cc

quiet-by : {S : Type 0} (h : Row → List S) (a x : Row) (rest : ℕ) (test : Bool) → same_row a x ≡ test → loud (h x) ≡ false → loud (h a) ≡ true → rest ≡ 0 → cond test 1 0 + rest ≡ 0
quiet-by h a x rest true e q l behind = let same : loud (h a) ≡ loud (h x) = ap (λ r. loud (h r)) (rows_apart a x ((Equal-is (row_order a x)).0 e)) in absurd (let none : true ≡ false = sym l ∙ same ∙ q in cc)
quiet-by h a x rest false e q l behind = omega (arith, behind)

pub quiet_count : {S : Type 0} (h : Row → List S) (a : Row) (xs : List Row) → flat_map h xs ≡ [] → loud (h a) ≡ true → count_of a xs ≡ 0
quiet_count h a [] e l = refl
quiet_count h a (x ∷ xs) e l =
    count-cons a x xs ∙ quiet-by h a x (count_of a xs) (same_row a x) refl (no_front (h x) (flat_map h xs) e) l (quiet_count h a xs (no_back (h x) (flat_map h xs) e) l)

-- ---- where each row gives one thing at most

one-each-by : {S : Type 0} (o : Option S) (xs ys : List S) → xs ≡ ys → cons_option o xs ≡ option_to_list o ++ ys
one-each-by None xs ys e = e
one-each-by (Some s) xs ys e = ap (λ t. s ∷ t) e

pub one_each : {S : Type 0} (h : Row → Option S) (xs : List Row) → filter_map h xs ≡ flat_map (λ a. option_to_list (h a)) xs
one_each h [] = refl
one_each h (x ∷ xs) = one-each-by (h x) (filter_map h xs) (flat_map (λ a. option_to_list (h a)) xs) (one_each h xs)

pub no_first : {S : Type 0} (xs : List S) → slice_get xs 0 ≡ None → xs ≡ []
no_first [] e = refl
no_first (x ∷ xs) e = cc
