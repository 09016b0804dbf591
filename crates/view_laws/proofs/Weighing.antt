-- What a sum over a bag comes to.
use Rattle.std.proofs.Common.{◌≡◌, ℕ, ◌+◌, ◌-◌, ◌<◌, Bool, true, false, cond, if◌then◌else◌, List, [], ◌∷◌, ◌++◌, map, filter, filter_map, Option, Some, None, refl, sym, ap, ◌∙◌, subst, arith}
use Rattle.std.specs.List.{sum_by}
use Rattle.std.specs.Cmp.{Equal-is}
use Rattle.std.proofs.lemmas.List.Sums.{sum_by-cons, sum_by-append}
use Rattle.value_core.specs.declared.change.Change.{Change}
use Rattle.value_core.specs.Bags.{count_of, SameBag, in_row_order, without, surplus, net_change, changed}
use Rattle.value_core.specs.Changes.{Holds}
use Rattle.value_core.specs.Order.{Row, row_order, same_row}
use Rattle.value_core.specs.OrderLaws.{rows_apart}
use Rattle.value_core.proofs.BagLemmas.{one, count-cons, count-in_row_order, order-in_row_order, one_order, one-itself}
use Rattle.value_core.proofs.ChangeLemmas.{count-surplus}
use Rattle.view_laws.specs.Weights.{IsOneBag, Moves}

-- ---- how often a row is held after another was taken out, and after both were sorted

at-other : (a r x : Row) (test : Bool) → same_row a r ≡ test → same_row r x ≡ false → cond test (one a x) 0 ≡ 0
at-other a r x true e h = subst (λ v. one v x ≡ 0) (sym (rows_apart a r ((Equal-is (row_order a r)).0 e))) (ap (λ t. cond t 1 0) h)
at-other a r x false e h = refl

without-other : (n m : ℕ) (test : Bool) → cond test n 0 ≡ 0 → n + (m - cond test 1 0) ≡ (n + m) - cond test 1 0
without-other n m true z = let none : n ≡ 0 = z in omega arith
without-other n m false z = omega arith

count-without-by : (a r x : Row) (xs : List Row) (test : Bool) → same_row r x ≡ test → count_of a (without r xs) ≡ count_of a xs - one a r
    → count_of a (if test then xs else x ∷ without r xs) ≡ (one a x + count_of a xs) - one a r
count-without-by a r x xs true e behind =
    let same : r ≡ x = rows_apart r x ((Equal-is (row_order r x)).0 e) in omega (arith, ap (one a) same)
count-without-by a r x xs false e behind =
    count-cons a x (without r xs) ∙ ap (λ n. one a x + n) behind ∙ without-other (one a x) (count_of a xs) (same_row a r) (at-other a r x (same_row a r) refl e)

count-without : (a r : Row) (xs : List Row) → count_of a (without r xs) ≡ count_of a xs - one a r
count-without a r [] = omega arith
count-without a r (x ∷ xs) = count-without-by a r x xs (same_row r x) refl (count-without a r xs) ∙ ap (λ n. n - one a r) (sym (count-cons a x xs))

count-append : (a : Row) (xs ys : List Row) → count_of a (xs ++ ys) ≡ count_of a xs + count_of a ys
count-append a xs ys = sum_by-append (one a) xs ys

count-sorted_surplus : (a : Row) (xs ys : List Row) → count_of a (in_row_order (surplus xs ys)) ≡ count_of a xs - count_of a ys
count-sorted_surplus a xs ys = count-in_row_order a (surplus xs ys) ∙ count-surplus a xs ys

-- ---- from how often each row is held to every sum

taken-by : (w : Row → ℕ) (x y : Row) (ys : List Row) (test : Bool) → same_row x y ≡ test → (0 < count_of x ys → sum_by w ys ≡ w x + sum_by w (without x ys)) → 0 < cond test 1 0 + count_of x ys
    → w y + sum_by w ys ≡ w x + sum_by w (if test then ys else y ∷ without x ys)
taken-by w x y ys true e behind k = let same : x ≡ y = rows_apart x y ((Equal-is (row_order x y)).0 e) in omega (arith, ap w same)
taken-by w x y ys false e behind k = omega (arith, behind (omega arith), sum_by-cons w y (without x ys))

-- a row that is held, and the rest
taken : (w : Row → ℕ) (x : Row) (ys : List Row) → 0 < count_of x ys → sum_by w ys ≡ w x + sum_by w (without x ys)
taken w x [] k = absurd (let none : ⊥ = omega arith in none)
taken w x (y ∷ ys) k = sum_by-cons w y ys ∙ taken-by w x y ys (same_row x y) refl (taken w x ys) (subst (λ n. 0 < n) (count-cons x y ys) k)

pub from_counts : (xs ys : List Row) → SameBag xs ys → (w : Row → ℕ) → sum_by w xs ≡ sum_by w ys
from_counts [] [] bag w = refl
from_counts [] (y ∷ ys) bag w = absurd (let none : ⊥ = omega (arith, bag y, count-cons y y ys, one-itself y) in none)
from_counts (x ∷ xs) ys bag w =
    let there : 0 < count_of x ys = omega (arith, bag x, count-cons x x xs, one-itself x) in
    let rest : SameBag xs (without x ys) = λ a. omega (arith, bag a, count-cons a x xs, count-without a x ys) in
    omega (arith, sum_by-cons w x xs, from_counts xs (without x ys) rest w, taken w x ys there)

pub one_bag : (xs ys : List Row) → SameBag xs ys → IsOneBag xs ys
one_bag xs ys bag = record { sums = from_counts xs ys bag }

pub sum-in_row_order : (w : Row → ℕ) (xs : List Row) → sum_by w (in_row_order xs) ≡ sum_by w xs
sum-in_row_order w xs = from_counts (in_row_order xs) xs (λ a. count-in_row_order a xs) w

-- ---- a change

count-held : (a : Row) (old removed : List Row) → Holds old removed → count_of a (surplus old removed ++ removed) ≡ count_of a old
count-held a old removed holds = omega (arith, count-append a (surplus old removed) removed, count-surplus a old removed, holds a)

-- what is left of a bag, and what is taken out
pub sum-held : (w : Row → ℕ) (old removed : List Row) → Holds old removed → sum_by w (surplus old removed) + sum_by w removed ≡ sum_by w old
sum-held w old removed holds = sym (sum_by-append w (surplus old removed) removed) ∙ from_counts (surplus old removed ++ removed) old (λ a. count-held a old removed holds) w

pub change_moves : (old : List Row) (change : Change) → Holds old change.removed → Moves old change.removed change.added (changed old change)
change_moves old change holds = record {
  sums = λ w. omega (arith, sum-in_row_order w (surplus old change.removed ++ change.added), sum_by-append w (surplus old change.removed) change.added, sum-held w old change.removed holds);
}

-- ---- the net change

net-one : (old out more new : List Row) → Moves old out more new → in_row_order (surplus old new) ≡ in_row_order (surplus out more)
net-one old out more new moves =
    one_order (in_row_order (surplus old new)) (in_row_order (surplus out more)) (order-in_row_order (surplus old new)) (order-in_row_order (surplus out more))
    (λ a. omega (arith, count-sorted_surplus a old new, count-sorted_surplus a out more, moves.sums (one a)))

net-other : (old out more new : List Row) → Moves old out more new → in_row_order (surplus new old) ≡ in_row_order (surplus more out)
net-other old out more new moves =
    one_order (in_row_order (surplus new old)) (in_row_order (surplus more out)) (order-in_row_order (surplus new old)) (order-in_row_order (surplus more out))
    (λ a. omega (arith, count-sorted_surplus a new old, count-sorted_surplus a more out, moves.sums (one a)))

pub moved_net : (old out more new : List Row) → Moves old out more new → net_change old new ≡ net_change out more
moved_net old out more new moves = λ i. record { removed = net-one old out more new moves i; added = net-other old out more new moves i }

-- ---- a map, a filter, both

pub sum-map : {A B : Type 0} (w : B → ℕ) (f : A → B) (xs : List A) → sum_by w (map f xs) ≡ sum_by (λ x. w (f x)) xs
sum-map w f [] = refl
sum-map w f (x ∷ xs) = omega (arith, sum_by-cons w (f x) (map f xs), sum_by-cons (λ y. w (f y)) x xs, sum-map w f xs)

sum-filter-by : {A : Type 0} (w : A → ℕ) (p : A → Bool) (x : A) (xs : List A) (test : Bool) → sum_by w (filter p xs) ≡ sum_by (λ y. cond (p y) (w y) 0) xs
    → sum_by w (cond test (x ∷ filter p xs) (filter p xs)) ≡ cond test (w x) 0 + sum_by (λ y. cond (p y) (w y) 0) xs
sum-filter-by w p x xs true behind = omega (arith, sum_by-cons w x (filter p xs), behind)
sum-filter-by w p x xs false behind = omega (arith, behind)

pub sum-filter : {A : Type 0} (w : A → ℕ) (p : A → Bool) (xs : List A) → sum_by w (filter p xs) ≡ sum_by (λ x. cond (p x) (w x) 0) xs
sum-filter w p [] = refl
sum-filter w p (x ∷ xs) = sum-filter-by w p x xs (p x) (sum-filter w p xs) ∙ sym (sum_by-cons (λ y. cond (p y) (w y) 0) x xs)

abbrev pub weight_of : {B : Type 0} → (B → ℕ) → Option B → ℕ
weight_of w None = 0
weight_of w (Some b) = w b

sum-filter_map-by : {A B : Type 0} (w : B → ℕ) (h : A → Option B) (x : A) (xs : List A) (given : Option B) → h x ≡ given → sum_by w (filter_map h xs) ≡ sum_by (λ y. weight_of w (h y)) xs
    → sum_by w (filter_map h (x ∷ xs)) ≡ weight_of w given + sum_by (λ y. weight_of w (h y)) xs
sum-filter_map-by w h x xs None e behind = rw e (omega (arith, behind))
sum-filter_map-by w h x xs (Some b) e behind = rw e (omega (arith, sum_by-cons w b (filter_map h xs), behind))

pub sum-filter_map : {A B : Type 0} (w : B → ℕ) (h : A → Option B) (xs : List A) → sum_by w (filter_map h xs) ≡ sum_by (λ x. weight_of w (h x)) xs
sum-filter_map w h [] = refl
sum-filter_map w h (x ∷ xs) = sum-filter_map-by w h x xs (h x) refl (sum-filter_map w h xs) ∙ sym (sum_by-cons (λ y. weight_of w (h y)) x xs)

pub moves-map : {A B : Type 0} (f : A → B) (old out more new : List A) → Moves old out more new → Moves (map f old) (map f out) (map f more) (map f new)
moves-map f old out more new moves = record {
  sums = λ w. omega (arith, sum-map w f old, sum-map w f out, sum-map w f more, sum-map w f new, moves.sums (λ x. w (f x)));
}

pub moves-filter : {A : Type 0} (p : A → Bool) (old out more new : List A) → Moves old out more new → Moves (filter p old) (filter p out) (filter p more) (filter p new)
moves-filter p old out more new moves = record {
  sums = λ w. omega (arith, sum-filter w p old, sum-filter w p out, sum-filter w p more, sum-filter w p new, moves.sums (λ x. cond (p x) (w x) 0));
}

pub moves-filter_map : {A B : Type 0} (h : A → Option B) (old out more new : List A) → Moves old out more new → Moves (filter_map h old) (filter_map h out) (filter_map h more) (filter_map h new)
moves-filter_map h old out more new moves = record {
  sums = λ w. omega (arith, sum-filter_map w h old, sum-filter_map w h out, sum-filter_map w h more, sum-filter_map w h new, moves.sums (λ x. weight_of w (h x)));
}
