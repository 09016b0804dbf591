-- The net change of one bag to another.
use Rattle.std.proofs.Common.{◌≡◌, ℕ, zero, suc, ◌+◌, ◌-◌, ◌<◌, ◌≤◌, Bool, true, false, cond, if◌then◌else◌, List, [], ◌∷◌, ◌++◌, refl, sym, ap, ◌∙◌, subst, arith}
use Rattle.std.specs.Cmp.{Equal-is}
use Rattle.std.proofs.lemmas.List.Sums.{sum_by-append}
use Rattle.value_core.specs.declared.change.Change.{Change}
use Rattle.value_core.specs.Bags.{count_of, in_row_order, without, surplus, net_change, changed}
use Rattle.value_core.specs.Changes.{IsChange, Holds}
use Rattle.value_core.specs.Order.{Row, row_order, same_row}
use Rattle.value_core.specs.OrderLaws.{rows_apart}
use Rattle.value_core.proofs.BagLemmas.{one, count-cons, count-in_row_order, order-in_row_order, one_order, same_list}

count-append : (a : Row) (xs ys : List Row) → count_of a (xs ++ ys) ≡ count_of a xs + count_of a ys
count-append a xs ys = sum_by-append (one a) xs ys

at-other : (a r x : Row) (test : Bool) → same_row a r ≡ test → same_row r x ≡ false → cond test (one a x) 0 ≡ 0
at-other a r x true e h = subst (λ v. one v x ≡ 0) (sym (rows_apart a r ((Equal-is (row_order a r)).0 e))) (ap (λ t. cond t 1 0) h)
at-other a r x false e h = refl

without-other : (n m : ℕ) (test : Bool) → cond test n 0 ≡ 0 → n + (m - cond test 1 0) ≡ (n + m) - cond test 1 0
without-other n m true z = let none : n ≡ 0 = z in omega arith
without-other n m false z = omega arith

count-without-by : (a r x : Row) (xs : List Row) (test : Bool) → same_row r x ≡ test → count_of a (without r xs) ≡ count_of a xs - one a r
    → count_of a (if test then xs else x ∷ without r xs) ≡ (one a x + count_of a xs) - one a r
count-without-by a r x xs true e behind =
    let same : r ≡ x = rows_apart r x ((Equal-is (row_order r x)).0 e) in omega (arith, ap (one a) same)
count-without-by a r x xs false e behind =
    count-cons a x (without r xs) ∙ ap (λ n. one a x + n) behind ∙ without-other (one a x) (count_of a xs) (same_row a r) (at-other a r x (same_row a r) refl e)

count-without : (a r : Row) (xs : List Row) → count_of a (without r xs) ≡ count_of a xs - one a r
count-without a r [] = omega arith
count-without a r (x ∷ xs) = count-without-by a r x xs (same_row r x) refl (count-without a r xs) ∙ ap (λ n. n - one a r) (sym (count-cons a x xs))

pub count-surplus : (a : Row) (xs ys : List Row) → count_of a (surplus xs ys) ≡ count_of a xs - count_of a ys
count-surplus a xs [] = omega arith
count-surplus a xs (y ∷ ys) = omega (arith, count-surplus a (without y xs) ys, count-without a y xs, count-cons a y ys)

count-sorted_surplus : (a : Row) (xs ys : List Row) → count_of a (in_row_order (surplus xs ys)) ≡ count_of a xs - count_of a ys
count-sorted_surplus a xs ys = count-in_row_order a (surplus xs ys) ∙ count-surplus a xs ys

pub net_form : (old new : List Row) → IsChange (net_change old new)
net_form old new = (order-in_row_order (surplus old new), order-in_row_order (surplus new old), λ a k. omega (arith, count-sorted_surplus a old new, count-sorted_surplus a new old))

count-changed : (a : Row) (rows : List Row) (change : Change) → count_of a (changed rows change) ≡ (count_of a rows - count_of a change.removed) + count_of a change.added
count-changed a rows change = count-in_row_order a (surplus rows change.removed ++ change.added) ∙ count-append a (surplus rows change.removed) change.added ∙ ap (λ n. n + count_of a change.added) (count-surplus a rows change.removed)

pub net_effect : (old new : List Row) → changed old (net_change old new) ≡ in_row_order new
net_effect old new = same_list (surplus old (in_row_order (surplus old new)) ++ in_row_order (surplus new old)) new (λ a. omega (arith, count-append a (surplus old (in_row_order (surplus old new))) (in_row_order (surplus new old)), count-surplus a old (in_row_order (surplus old new)), count-sorted_surplus a old new, count-sorted_surplus a new old))

removed-again : (o r a n : ℕ) → (0 < r → a ≡ 0) → r ≤ o → n ≡ (o - r) + a → o - n ≡ r
removed-again o zero a n apart held e = omega arith
removed-again o (suc r) a n apart held e = let z : a ≡ 0 = apart (omega arith) in omega arith

added-again : (o r a n : ℕ) → (0 < r → a ≡ 0) → r ≤ o → n ≡ (o - r) + a → n - o ≡ a
added-again o zero a n apart held e = omega arith
added-again o (suc r) a n apart held e = let z : a ≡ 0 = apart (omega arith) in omega arith

net-removed : (old : List Row) (change : Change) → IsChange change → Holds old change.removed → in_row_order (surplus old (changed old change)) ≡ change.removed
net-removed old change form holds =
    one_order (in_row_order (surplus old (changed old change))) change.removed (order-in_row_order (surplus old (changed old change))) form.0 (λ a. count-sorted_surplus a old (changed old change)
    ∙ removed-again (count_of a old) (count_of a change.removed) (count_of a change.added) (count_of a (changed old change)) (form.2 a) (holds a) (count-changed a old change))

net-added : (old : List Row) (change : Change) → IsChange change → Holds old change.removed → in_row_order (surplus (changed old change) old) ≡ change.added
net-added old change form holds =
    one_order (in_row_order (surplus (changed old change) old)) change.added (order-in_row_order (surplus (changed old change) old)) form.1 (λ a. count-sorted_surplus a (changed old change) old
    ∙ added-again (count_of a old) (count_of a change.removed) (count_of a change.added) (count_of a (changed old change)) (form.2 a) (holds a) (count-changed a old change))

pub net_again : (old : List Row) (change : Change) → IsChange change → Holds old change.removed → net_change old (changed old change) ≡ change
net_again old change form holds = λ i. record { removed = net-removed old change form holds i; added = net-added old change form holds i }
