-- What one step of a walk along rows in order keeps.
use Rattle.std.proofs.Common.{◌≡◌, ◌↔◌, IsTrue, length, ℕ, zero, suc, ◌+◌, ◌<◌, Bool, true, false, cond, List, [], ◌∷◌, Some, slice_get, refl, sym, ap, ◌∙◌, subst, arith}
use Rattle.std.specs.declared.cmp.Ordering.TheVariants.{Less, Equal, Greater}
use Rattle.std.specs.Ordering.{is_gt, ordering_reverse}
use Rattle.std.specs.Cmp.{Equal-is}
use Rattle.value_core.specs.Bags.{count_of, IsLeast, IsInOrder}
use Rattle.value_core.specs.Changes.{change_of, IsApart, IsChange}
use Rattle.value_core.specs.Order.{Row, row_order, same_row}
use Rattle.value_core.specs.OrderLaws.{row_order_total, rows_apart}
use Rattle.value_core.proofs.BagLemmas.{one, count-cons, one-itself, least-itself, least-below, held}

-- ---- whether rows are in order

order-from : (x y : Row) (zs : List Row) {A : Type 0} → is_gt (row_order x y) ≡ false → (IsInOrder (x ∷ y ∷ zs) ↔ A) → IsInOrder (y ∷ zs) ↔ A
order-from x y zs h both = (λ s. both.0 ((h, least-below x y zs h s.0), s), λ a. let s : IsInOrder (x ∷ y ∷ zs) = both.1 a in s.1)

order_from-more : (x next : Row) (more : List Row) {A : Type 0} → Some next ≡ slice_get more 0 → is_gt (row_order x next) ≡ false → (IsInOrder (x ∷ more) ↔ A) → IsInOrder more ↔ A
order_from-more x next [] e h both = let none : ⊥ = cc in absurd none
order_from-more x next (y ∷ zs) e h both = let same : next ≡ y = cc in order-from x y zs (subst (λ v. is_gt (row_order x v) ≡ false) same h) both

pub order_from : (left : List Row) (x next : Row) (more : List Row) {A : Type 0} → left ≡ x ∷ more → Some next ≡ slice_get more 0 → is_gt (row_order x next) ≡ false → (IsInOrder left ↔ A) → IsInOrder more ↔ A
order_from left x next more e n h both = order_from-more x next more n h (λ s. both.0 (subst IsInOrder (sym e) s), λ a. subst IsInOrder e (both.1 a))

-- ---- whether lists are apart

zero-unless : (n : ℕ) → (0 < n → ⊥) → n ≡ 0
zero-unless zero h = refl
zero-unless (suc n) h = absurd (h (omega arith))

turned : (x y : Row) → row_order x y ≡ Less → is_gt (row_order y x) ≡ true
turned x y e = ap is_gt (row_order_total.antisymm y x ∙ ap ordering_reverse e)

-- what is below the least row of a list isn't in it
missing : (x y : Row) (zs : List Row) → row_order x y ≡ Less → IsLeast y zs → count_of x zs ≡ 0
missing x y zs e l = zero-unless (count_of x zs) (λ k. let f : true ≡ false = sym (turned x y e) ∙ held x y zs l k in cc)

apart-flip : (xs ys : List Row) → IsApart xs ys → IsApart ys xs
apart-flip xs ys h = λ row k. zero-unless (count_of row xs) (λ j. let z : count_of row ys ≡ 0 = h row j in let none : ⊥ = omega arith in none)

apart-cons-by : (row x : Row) (xs zs : List Row) (test : Bool) → same_row row x ≡ test → count_of x zs ≡ 0 → (0 < count_of row xs → count_of row zs ≡ 0) → 0 < cond test 1 0 + count_of row xs → count_of row zs ≡ 0
apart-cons-by row x xs zs true e none behind k = subst (λ r. count_of r zs ≡ 0) (sym (rows_apart row x ((Equal-is (row_order row x)).0 e))) none
apart-cons-by row x xs zs false e none behind k = behind (omega arith)

apart-cons : (x : Row) (xs zs : List Row) → count_of x zs ≡ 0 → IsApart xs zs → IsApart (x ∷ xs) zs
apart-cons x xs zs none h = λ row k. apart-cons-by row x xs zs (same_row row x) refl none (h row) (subst (λ n. 0 < n) (count-cons row x xs) k)

apart-rest : (x : Row) (xs zs : List Row) → IsApart (x ∷ xs) zs → IsApart xs zs
apart-rest x xs zs h = λ row k. h row (omega (arith, count-cons row x xs))

apart-less : (x y : Row) (xs ys : List Row) → row_order x y ≡ Less → IsInOrder (y ∷ ys) → IsApart xs (y ∷ ys) → IsApart (x ∷ xs) (y ∷ ys)
apart-less x y xs ys e s h = apart-cons x xs (y ∷ ys) (missing x y (y ∷ ys) e (least-itself y, s.0)) h

pub apart_less : (left right : List Row) (x y : Row) (xs ys : List Row) {A : Type 0} → left ≡ x ∷ xs → right ≡ y ∷ ys → row_order x y ≡ Less → IsInOrder right → (IsApart left right ↔ A) → IsApart xs right ↔ A
apart_less left right x y xs ys l r e s both =
    let t : IsInOrder (y ∷ ys) = subst IsInOrder r s in (
      λ h. both.0 (subst (λ v. IsApart v right) (sym l) (subst (IsApart (x ∷ xs)) (sym r) (apart-less x y xs ys e t (subst (IsApart xs) r h)))),
      λ a. apart-rest x xs right (subst (λ v. IsApart v right) l (both.1 a)),
    )

pub apart_greater : (left right : List Row) (x y : Row) (xs ys : List Row) {A : Type 0} → left ≡ x ∷ xs → right ≡ y ∷ ys → row_order x y ≡ Greater → IsInOrder left → (IsApart left right ↔ A) → IsApart left ys ↔ A
apart_greater left right x y xs ys {A = A} l r e s both =
    let less : row_order y x ≡ Less = row_order_total.antisymm y x ∙ ap ordering_reverse e in
    let back : IsApart ys left ↔ A = apart_less right left y x ys xs r l less s (λ h. both.0 (apart-flip right left h), λ a. apart-flip left right (both.1 a)) in
    (λ h. back.0 (apart-flip left ys h), λ a. apart-flip ys left (back.1 a))

pub apart_equal : (left right : List Row) (x y : Row) (xs ys : List Row) → left ≡ x ∷ xs → right ≡ y ∷ ys → row_order x y ≡ Equal → IsApart left right → ⊥
apart_equal left right x y xs ys l r e h =
    let same : y ≡ x = sym (rows_apart x y e) in
    let in_left : 0 < count_of x left = omega (arith, ap (count_of x) l, count-cons x x xs, one-itself x) in
    let in_right : 0 < count_of x right = omega (arith, ap (count_of x) r, count-cons x y ys, ap (one x) same, one-itself x) in
    let z : count_of x right ≡ 0 = h x in_left in
    let none : ⊥ = omega arith in none

pub apart_left_end : (left right : List Row) → left ≡ [] → IsApart left right
apart_left_end left right l = λ row k. absurd (let none : ⊥ = omega (arith, ap (count_of row) l) in none)

pub apart_right_end : (left right : List Row) → right ≡ [] → IsApart left right
apart_right_end left right r = λ row k. ap (count_of row) r

pub no_rows : (rows : List Row) → length rows ≡ 0 → rows ≡ []
no_rows [] e = refl
no_rows (x ∷ xs) e = absurd (let none : ⊥ = omega arith in none)

pub rest_in_order : (left : List Row) (x : Row) (xs : List Row) → left ≡ x ∷ xs → IsInOrder left → IsInOrder xs
rest_in_order left x xs e s = let all : IsInOrder (x ∷ xs) = subst IsInOrder e s in all.1

-- lists in row order make a change exactly where they are apart
pub change_by_parts : (test : Bool) (removed added left right : List Row) → IsInOrder removed → IsInOrder added → left ≡ removed → right ≡ added → (IsTrue test ↔ IsApart left right) → IsTrue test ↔ IsChange (change_of removed added)
change_by_parts test removed added left right r a l m both =
    (λ t. (r, a, subst (λ v. IsApart v added) l (subst (IsApart left) m (both.0 t))), λ change. both.1 (subst (λ v. IsApart v right) (sym l) (subst (IsApart removed) (sym m) change.2)))
