-- The net change of two lists that agree before and behind.
use Rattle.std.proofs.Common.{◌≡◌, ℕ, zero, suc, ◌+◌, ◌-◌, ◌<◌, Bool, true, false, cond, List, [], ◌∷◌, ◌++◌, length, slice_index_or, refl, sym, ap, ◌∙◌, subst, append_assoc, arith}
use Rattle.std.specs.declared.cmp.Ordering.{Ordering}
use Rattle.std.specs.declared.cmp.Ordering.TheVariants.{Less, Equal, Greater}
use Rattle.std.specs.Ordering.{is_gt, is_lt, ordering_reverse}
use Rattle.std.specs.Cmp.{Equal-is}
use Rattle.std.specs.List.Sorted.{IsPermutation, IsSorted}
use Rattle.std.proofs.lemmas.List.{append-nil}
use Rattle.std.proofs.lemmas.List.Sorted.{sum_by-IsPermutation}
use Rattle.value_core.specs.OrderLaws.{row_order_total, rows_apart}
use Rattle.value_core.specs.Bags.{count_of, SameBag, in_row_order, surplus, net_change, IsLeast, IsInOrder}
use Rattle.value_core.specs.Order.{Row, row_order, same_row}
use Rattle.value_core.proofs.BagLemmas.{same_list, one_order, order-in_row_order, count-in_row_order, count-cons, held, least-itself, least-below}
use Rattle.value_core.proofs.ChangeLemmas.{count-surplus}
use Rattle.std.proofs.lemmas.List.Sums.{sum_by-append}
use Rattle.value_core.proofs.BagLemmas.{one}

count-append : (a : Row) (xs ys : List Row) → count_of a (xs ++ ys) ≡ count_of a xs + count_of a ys
count-append a xs ys = sum_by-append (one a) xs ys

count-within : (a : Row) (ps xs ss : List Row) → count_of a (ps ++ (xs ++ ss)) ≡ count_of a ps + (count_of a xs + count_of a ss)
count-within a ps xs ss = count-append a ps (xs ++ ss) ∙ ap (λ n. count_of a ps + n) (count-append a xs ss)

same_surplus : (ps xs ys ss : List Row) → SameBag (surplus (ps ++ (xs ++ ss)) (ps ++ (ys ++ ss))) (surplus xs ys)
same_surplus ps xs ys ss a = omega (arith, count-surplus a (ps ++ (xs ++ ss)) (ps ++ (ys ++ ss)), count-surplus a xs ys, count-within a ps xs ss, count-within a ps ys ss)

pub net_within : (ps xs ys ss : List Row) → net_change (ps ++ (xs ++ ss)) (ps ++ (ys ++ ss)) ≡ net_change xs ys
net_within ps xs ys ss = λ i. record {
  removed = same_list (surplus (ps ++ (xs ++ ss)) (ps ++ (ys ++ ss))) (surplus xs ys) (same_surplus ps xs ys ss) i;
  added = same_list (surplus (ps ++ (ys ++ ss)) (ps ++ (xs ++ ss))) (surplus ys xs) (same_surplus ps ys xs ss) i;
}

-- ---- two lists in order, side by side

count-none : (row : Row) → count_of row [] ≡ 0
count-none row = refl

count-push : (row : Row) (rows : List Row) (x : Row) → count_of row (rows ++ x ∷ []) ≡ count_of row rows + one row x
count-push row rows x = omega (arith, count-append row rows (x ∷ []), count-cons row x [], count-none row)

in_order_rest : (xs ys : List Row) → IsInOrder (xs ++ ys) → IsInOrder ys
in_order_rest [] ys order = order
in_order_rest (x ∷ xs) ys order = in_order_rest xs ys order.1

least_without : (z : Row) (xs : List Row) (y : Row) (ys : List Row) → IsLeast z (xs ++ y ∷ ys) → IsLeast z (xs ++ ys)
least_without z [] y ys least = least.1
least_without z (x ∷ xs) y ys least = (least.0, least_without z xs y ys least.1)

order_without : (xs : List Row) (y : Row) (ys : List Row) → IsInOrder (xs ++ y ∷ ys) → IsInOrder (xs ++ ys)
order_without [] y ys order = order.1
order_without (x ∷ xs) y ys order = (least_without x xs y ys order.0, order_without xs y ys order.1)

pub record Merges (left right old new removed added : List Row) : Type 0 where
  pub removed_order : IsInOrder (removed ++ old)
  pub added_order : IsInOrder (added ++ new)
  pub removed_count : (row : Row) → count_of row removed + (count_of row old - count_of row new) ≡ count_of row left - count_of row right
  pub added_count : (row : Row) → count_of row added + (count_of row new - count_of row old) ≡ count_of row right - count_of row left

pub merges_first : (left right : List Row) → IsInOrder left → IsInOrder right → Merges left right left right [] []
merges_first left right l r = record { removed_order = l; added_order = r; removed_count = λ row. omega (arith, count-none row); added_count = λ row. omega (arith, count-none row) }

-- a row below the head of a list in order isn't in it
absent : (row y : Row) (ys : List Row) → IsInOrder (y ∷ ys) → row_order row y ≡ Less → count_of row (y ∷ ys) ≡ 0
absent row y ys order below = zero-or (count_of row (y ∷ ys)) (λ some. absurd (no-less (row_order row y) (row_order y row) (row_order_total.antisymm y row) (held row y (y ∷ ys) (least-itself y, order.0) some) below))
  where
    no-less : (r s : Ordering) → s ≡ ordering_reverse r → is_gt s ≡ false → r ≡ Less → ⊥
    no-less Less s e h k = absurd (let none : ⊥ = cc in none)
    no-less Equal s e h k = cc
    no-less Greater s e h k = cc

    zero-or : (n : ℕ) → (0 < n → ⊥) → n ≡ 0
    zero-or zero h = refl
    zero-or (suc n) h = absurd (h (omega arith))

one-other : (row x : Row) (rest : List Row) → count_of x rest ≡ 0 → (test : Bool) → same_row row x ≡ test → 0 < one row x → count_of row rest ≡ 0
one-other row x rest none true e some = (λ i. count_of (rows_apart row x ((Equal-is (row_order row x)).0 e) i) rest) ∙ none
one-other row x rest none false e some = let n : one row x ≡ 0 = ap (λ t. cond t 1 0) e in absurd (omega arith)

-- the lesser head goes
takes : (o x r n l t : ℕ) → (0 < x → n ≡ 0) → r + ((x + o) - n) ≡ l - t → (r + x) + (o - n) ≡ l - t
takes o zero r n l t apart e = omega arith
takes o (suc x) r n l t apart e = let z : n ≡ 0 = apart (omega arith) in omega arith

keeps : (o x a n l t : ℕ) → (0 < x → n ≡ 0) → a + (n - (x + o)) ≡ l - t → a + (n - o) ≡ l - t
keeps o zero a n l t apart e = omega arith
keeps o (suc x) a n l t apart e = let z : n ≡ 0 = apart (omega arith) in omega arith

pub merges_less : (left right xs ys removed removed' added : List Row) (x y : Row) → Merges left right (x ∷ xs) (y ∷ ys) removed added → row_order x y ≡ Less → removed' ≡ removed ++ x ∷ []
    → Merges left right xs (y ∷ ys) removed' added
merges_less left right xs ys removed removed' added x y m below put =
    let gone : (row : Row) → 0 < one row x → count_of row (y ∷ ys) ≡ 0 = λ row. one-other row x (y ∷ ys) (absent x y ys (in_order_rest added (y ∷ ys) m.added_order) below) (same_row row x) refl in
    record {
      removed_order = subst IsInOrder (sym (append_assoc removed (x ∷ []) xs) ∙ ap (λ zs. zs ++ xs) (sym put)) m.removed_order;
      added_order = m.added_order;
      removed_count = λ row. ap (λ zs. count_of row zs + (count_of row xs - count_of row (y ∷ ys))) put ∙ ap (λ n. n + (count_of row xs - count_of row (y ∷ ys))) (count-push row removed x)
          ∙ takes (count_of row xs) (one row x) (count_of row removed) (count_of row (y ∷ ys)) (count_of row left) (count_of row right) (gone row) (subst (λ n. count_of row removed + (n - count_of row (y ∷ ys)) ≡ count_of row left - count_of row right) (count-cons row x xs) (m.removed_count row));
      added_count = λ row. keeps (count_of row xs) (one row x) (count_of row added) (count_of row (y ∷ ys)) (count_of row right) (count_of row left) (gone row) (subst (λ n. count_of row added + (count_of row (y ∷ ys) - n) ≡ count_of row right - count_of row left) (count-cons row x xs) (m.added_count row));
    }

turn : (left right old new removed added : List Row) → Merges left right old new removed added → Merges right left new old added removed
turn left right old new removed added m = record { removed_order = m.added_order; added_order = m.removed_order; removed_count = m.added_count; added_count = m.removed_count }

pub merges_greater : (left right xs ys removed added added' : List Row) (x y : Row) → Merges left right (x ∷ xs) (y ∷ ys) removed added → row_order x y ≡ Greater → added' ≡ added ++ y ∷ []
    → Merges left right (x ∷ xs) ys removed added'
merges_greater left right xs ys removed added added' x y m above put =
    turn right left ys (x ∷ xs) added' removed (merges_less right left ys xs added added' removed y x (turn left right (x ∷ xs) (y ∷ ys) removed added m) (below (row_order x y) (row_order y x) (row_order_total.antisymm y x) above) put)
  where
    below : (r s : Ordering) → s ≡ ordering_reverse r → r ≡ Greater → s ≡ Less
    below Less s e h = cc
    below Equal s e h = cc
    below Greater s e h = e

both : (a o n r l t : ℕ) → r + ((a + o) - (a + n)) ≡ l - t → r + (o - n) ≡ l - t
both a o n r l t e = omega arith

pub merges_equal : (left right xs ys removed added : List Row) (x y : Row) → Merges left right (x ∷ xs) (y ∷ ys) removed added → row_order x y ≡ Equal
    → Merges left right xs ys removed added
merges_equal left right xs ys removed added x y m e =
    let same : x ≡ y = rows_apart x y e in
    record {
      removed_order = order_without removed x xs m.removed_order;
      added_order = order_without added y ys m.added_order;
      removed_count = λ row. both (one row x) (count_of row xs) (count_of row ys) (count_of row removed) (count_of row left) (count_of row right)
          ((λ i. count_of row removed + (sym (count-cons row x xs) i - (sym (count-cons row y ys ∙ ap (λ z. one row z + count_of row ys) (sym same)) i))) ∙ m.removed_count row);
      added_count = λ row. both (one row x) (count_of row ys) (count_of row xs) (count_of row added) (count_of row right) (count_of row left)
          ((λ i. count_of row added + ((sym (count-cons row y ys ∙ ap (λ z. one row z + count_of row ys) (sym same)) i) - sym (count-cons row x xs) i)) ∙ m.added_count row);
    }

net_is : (left right removed added : List Row) → IsInOrder removed → IsInOrder added
    → ((row : Row) → count_of row removed ≡ count_of row left - count_of row right) → ((row : Row) → count_of row added ≡ count_of row right - count_of row left)
    → record { removed = removed; added = added } ≡ net_change left right
net_is left right removed added r a rc ac = λ i. record {
  removed = one_order removed (in_row_order (surplus left right)) r (order-in_row_order (surplus left right)) (λ row. rc row ∙ sym (count-in_row_order row (surplus left right) ∙ count-surplus row left right)) i;
  added = one_order added (in_row_order (surplus right left)) a (order-in_row_order (surplus right left)) (λ row. ac row ∙ sym (count-in_row_order row (surplus right left) ∙ count-surplus row right left)) i;
}

rest-removed : (r o n l t : ℕ) → n ≡ 0 → r + (o - n) ≡ l - t → r + o ≡ l - t
rest-removed r o n l t z e = omega arith

rest-added : (a o n l t : ℕ) → n ≡ 0 → a + (n - o) ≡ l - t → a ≡ l - t
rest-added a o n l t z e = omega arith

pub merges_old : (left right old new removed removed' added : List Row) → Merges left right old new removed added → new ≡ [] → removed' ≡ removed ++ old
    → record { removed = removed'; added = added } ≡ net_change left right
merges_old left right old new removed removed' added m none put =
    let z : (row : Row) → count_of row new ≡ 0 = λ row. ap (count_of row) none in
    net_is left right removed' added (subst IsInOrder (sym put) m.removed_order) (subst IsInOrder (ap (λ ys. added ++ ys) none ∙ append-nil added) m.added_order)
    (λ row. ap (count_of row) put ∙ count-append row removed old ∙ rest-removed (count_of row removed) (count_of row old) (count_of row new) (count_of row left) (count_of row right) (z row) (m.removed_count row))
    (λ row. rest-added (count_of row added) (count_of row old) (count_of row new) (count_of row right) (count_of row left) (z row) (m.added_count row))

pub merges_new : (left right old new removed added added' : List Row) → Merges left right old new removed added → old ≡ [] → added' ≡ added ++ new
    → record { removed = removed; added = added' } ≡ net_change left right
merges_new left right old new removed added added' m none put =
    λ i. record { removed = (flipped i).added; added = (flipped i).removed }
  where
    flipped : record { removed = added'; added = removed } ≡ net_change right left
    flipped = merges_old right left new old added added' removed (turn left right old new removed added m) none put

-- ---- sorting

turned-up : (r s : Ordering) → s ≡ ordering_reverse r → is_lt r ≡ false → is_gt s ≡ false
turned-up Less s e h = cc
turned-up Equal s e h = ap is_gt e
turned-up Greater s e h = ap is_gt e

sorted-order : (xs : List Row) → IsSorted row_order xs → IsInOrder xs
sorted-order [] up = tt
sorted-order (x ∷ []) up = (tt, tt)
sorted-order (x ∷ (y ∷ ys)) up =
    let rest : IsInOrder (y ∷ ys) = sorted-order (y ∷ ys) (λ k d low within. shifted k d within) in
    let first : is_gt (row_order x y) ≡ false = turned-up (row_order y x) (row_order x y) (row_order_total.antisymm x y) (head (up 0 x (omega arith) (omega arith))) in
    ((first, least-below x y ys first rest.0), rest)
  where
    head : is_lt (row_order (slice_index_or (x ∷ (y ∷ ys)) (0 + 1) x) (slice_index_or (x ∷ (y ∷ ys)) 0 x)) ≡ false → is_lt (row_order y x) ≡ false
    head h = h

    shifted : (k : ℕ) (d : Row) → k + 1 < length (y ∷ ys) → is_lt (row_order (slice_index_or (y ∷ ys) (k + 1) d) (slice_index_or (y ∷ ys) k d)) ≡ false
    shifted k d within = let e : suc k + 1 ≡ suc (k + 1) = omega arith in subst (λ n. is_lt (row_order (slice_index_or (x ∷ (y ∷ ys)) n d) (slice_index_or (x ∷ (y ∷ ys)) (suc k) d)) ≡ false) e (up (suc k) d (omega arith) (omega arith))

pub sorted_order : (xs : List Row) → IsSorted row_order xs → IsInOrder xs
sorted_order = sorted-order

pub same_bag : (xs ys : List Row) → IsPermutation xs ys → SameBag ys xs
same_bag xs ys moves row = sum_by-IsPermutation (one row) xs ys moves

pub net_same : (old new left right : List Row) → SameBag left old → SameBag right new → net_change left right ≡ net_change old new
net_same old new left right l r = λ i. record {
  removed = same_list (surplus left right) (surplus old new) (λ row. count-surplus row left right ∙ (λ k. l row k - r row k) ∙ sym (count-surplus row old new)) i;
  added = same_list (surplus right left) (surplus new old) (λ row. count-surplus row right left ∙ (λ k. r row k - l row k) ∙ sym (count-surplus row new old)) i;
}

pub nothing : (rows : List Row) → length rows ≡ 0 → rows ≡ []
nothing [] e = refl
nothing (row ∷ rows) e = absurd (let none : ⊥ = omega arith in none)

-- ---- one change after the other

together : (a b c : ℕ) → ((a - b) + (b - c)) - ((b - a) + (c - b)) ≡ a - c
together a b c = omega arith

follow_count : (row : Row) (first second third : List Row)
    → count_of row (surplus first third) ≡ count_of row (surplus (in_row_order (surplus first second) ++ in_row_order (surplus second third)) (in_row_order (surplus second first) ++ in_row_order (surplus third second)))
follow_count row first second third =
    let n : (xs ys : List Row) → count_of row (in_row_order (surplus xs ys)) ≡ count_of row xs - count_of row ys = λ xs ys. count-in_row_order row (surplus xs ys) ∙ count-surplus row xs ys in
    let gone : count_of row (in_row_order (surplus first second) ++ in_row_order (surplus second third)) ≡ (count_of row first - count_of row second) + (count_of row second - count_of row third) =
    count-append row (in_row_order (surplus first second)) (in_row_order (surplus second third)) ∙ (λ i. n first second i + n second third i) in
    let come : count_of row (in_row_order (surplus second first) ++ in_row_order (surplus third second)) ≡ (count_of row second - count_of row first) + (count_of row third - count_of row second) =
    count-append row (in_row_order (surplus second first)) (in_row_order (surplus third second)) ∙ (λ i. n second first i + n third second i) in
    count-surplus row first third ∙ sym (together (count_of row first) (count_of row second) (count_of row third))
    ∙ (λ i. sym gone i - sym come i)
    ∙ sym (count-surplus row (in_row_order (surplus first second) ++ in_row_order (surplus second third)) (in_row_order (surplus second first) ++ in_row_order (surplus third second)))

back_count : (row : Row) (first second third : List Row)
    → count_of row (surplus third first) ≡ count_of row (surplus (in_row_order (surplus second first) ++ in_row_order (surplus third second)) (in_row_order (surplus first second) ++ in_row_order (surplus second third)))
back_count row first second third =
    let n : (xs ys : List Row) → count_of row (in_row_order (surplus xs ys)) ≡ count_of row xs - count_of row ys = λ xs ys. count-in_row_order row (surplus xs ys) ∙ count-surplus row xs ys in
    let gone : count_of row (in_row_order (surplus first second) ++ in_row_order (surplus second third)) ≡ (count_of row first - count_of row second) + (count_of row second - count_of row third) =
    count-append row (in_row_order (surplus first second)) (in_row_order (surplus second third)) ∙ (λ i. n first second i + n second third i) in
    let come : count_of row (in_row_order (surplus second first) ++ in_row_order (surplus third second)) ≡ (count_of row second - count_of row first) + (count_of row third - count_of row second) =
    count-append row (in_row_order (surplus second first)) (in_row_order (surplus third second)) ∙ (λ i. n second first i + n third second i) in
    let e : ((count_of row second - count_of row first) + (count_of row third - count_of row second)) - ((count_of row first - count_of row second) + (count_of row second - count_of row third)) ≡ count_of row third - count_of row first = omega arith in
    count-surplus row third first ∙ sym e
    ∙ (λ i. sym come i - sym gone i)
    ∙ sym (count-surplus row (in_row_order (surplus second first) ++ in_row_order (surplus third second)) (in_row_order (surplus first second) ++ in_row_order (surplus second third)))

pub net_follows : (first second third : List Row)
    → net_change first third ≡ net_change ((net_change first second).removed ++ (net_change second third).removed) ((net_change first second).added ++ (net_change second third).added)
net_follows first second third = λ i. record {
  removed = same_list (surplus first third) (surplus (in_row_order (surplus first second) ++ in_row_order (surplus second third)) (in_row_order (surplus second first) ++ in_row_order (surplus third second))) (λ row. follow_count row first second third) i;
  added = same_list (surplus third first) (surplus (in_row_order (surplus second first) ++ in_row_order (surplus third second)) (in_row_order (surplus first second) ++ in_row_order (surplus second third))) (λ row. back_count row first second third) i;
}
