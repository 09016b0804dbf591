-- Rows that were sorted are in row order.
use Rattle.std.proofs.Common.{◌≡◌, ℕ, suc, ◌+◌, false, cond, List, [], ◌∷◌, get_or, sym, ap, ◌∙◌, subst, arith}
use Rattle.std.specs.declared.cmp.Ordering.{Ordering}
use Rattle.std.specs.declared.cmp.Ordering.TheVariants.{Less, Equal, Greater}
use Rattle.std.specs.Ordering.{is_gt, is_lt, ordering_reverse}
use Rattle.std.specs.List.Sorted.{IsSorted, IsPermutation}
use Rattle.std.proofs.lemmas.List.Sorted.{sum_by-IsPermutation}
use Rattle.value_core.specs.Bags.{IsInOrder, SameBag, in_row_order}
use Rattle.value_core.specs.Order.{Row, row_order, same_row}
use Rattle.value_core.specs.OrderLaws.{row_order_total}
use Rattle.value_core.proofs.BagLemmas.{count-in_row_order, least-below, one_order, order-in_row_order}

-- ---- a sort leaves the rows in row order

turned_below : (r s : Ordering) → s ≡ ordering_reverse r → is_lt r ≡ false → is_gt s ≡ false
turned_below Less s e h = cc
turned_below Equal s e h = ap is_gt e
turned_below Greater s e h = ap is_gt e

not_below : (x y : Row) → is_lt (row_order y x) ≡ false → is_gt (row_order x y) ≡ false
not_below x y h = turned_below (row_order y x) (row_order x y) (row_order_total.antisymm x y) h

sorted-tail : (x : Row) (xs : List Row) → IsSorted row_order (x ∷ xs) → IsSorted row_order xs
sorted-tail x xs sorted k d low high =
    subst (λ (n : ℕ). is_lt (row_order (get_or (x ∷ xs) n d) (get_or (x ∷ xs) (suc k) d)) ≡ false) (let next : suc k + 1 ≡ suc (k + 1) = omega arith in next) (sorted (suc k) d (omega arith) (omega arith))

order-from_sorted : (xs : List Row) → IsSorted row_order xs → IsInOrder xs
order-from_sorted [] sorted = tt
order-from_sorted (x ∷ []) sorted = (tt, tt)
order-from_sorted (x ∷ y ∷ ys) sorted =
    let rest = order-from_sorted (y ∷ ys) (sorted-tail x (y ∷ ys) sorted) in
    let first : is_gt (row_order x y) ≡ false = not_below x y (sorted 0 x (omega arith) (omega arith)) in
    ((first, least-below x y ys first rest.0), rest)

bag-from_permutation : (xs ys : List Row) → IsPermutation xs ys → SameBag xs ys
bag-from_permutation xs ys moved row = sym (sum_by-IsPermutation (λ x. cond (same_row row x) 1 0) xs ys moved)

pub sorted_is : (xs ys : List Row) → IsSorted row_order ys → IsPermutation xs ys → ys ≡ in_row_order xs
sorted_is xs ys sorted moved =
    one_order ys (in_row_order xs) (order-from_sorted ys sorted) (order-in_row_order xs) (λ a. sym (bag-from_permutation xs ys moved a) ∙ sym (count-in_row_order a xs))
