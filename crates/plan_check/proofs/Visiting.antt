-- Each dataset that has a level is visited.
use Rattle.std.proofs.Common.{◌≡◌, ℕ, zero, suc, ◌+◌, ◌<◌, ◌≤◌, Bool, true, false, cond, List, [], ◌∷◌, ◌++◌, length, refl, sym, ◌∙◌, ap, subst, inl, inr, arith, add-one}
use Rattle.std.specs.Prelude.{◌⊎◌, ◌||◌, max, nat_eq}
use Rattle.std.specs.List.{filter, flat_map, fold, list_any, range_with_len}
use Rattle.std.proofs.lemmas.Bool.{eq-eqb}
use Rattle.std.proofs.lemmas.List.Folds.{list_any-append}
use Rattle.std.proofs.Math.Nat.{eq-or-lt_of_le}
use Rattle.plan_check.specs.declared.visits.Visit.{Visit}
use Rattle.plan_check.specs.Visits.{by_level, greatest_level, levels_in, of_level, visit_to, visits_with}

abbrev pub Among : {A : Type 0} → A → List A → Type 0
Among x [] = ⊥
Among x (y ∷ more) = (x ≡ y) ⊎ Among x more

or_left : (a b : Bool) → a ≡ true → (a || b) ≡ true
or_left true b e = refl
or_left false b e = absurd (cc)

or_right : (a b : Bool) → b ≡ true → (a || b) ≡ true
or_right true b e = refl
or_right false b e = e

-- the levels up to the greatest
in_range : (from count x : ℕ) → from ≤ x → x < from + count → Among x (range_with_len from count)
in_range from zero x low high = absurd (omega (arith, low, high))
in_range from (suc count) x low high =
    elim (eq-or-lt_of_le low) [ inl e ↦ inl (sym e) | inr less ↦ inr (in_range (from + 1) count x (omega (arith, less)) (omega (arith, high))) ]

abbrev greatest_of : ℕ → Visit → ℕ
greatest_of greatest visit = max greatest visit.level

no_less : (visits : List Visit) (before : ℕ) → before ≤ fold greatest_of before visits
no_less [] before = omega arith
no_less (visit ∷ more) before = let rest : max before visit.level ≤ fold greatest_of (max before visit.level) more = no_less more (max before visit.level) in omega (arith, rest)

level_at_most : (visits : List Visit) (before : ℕ) (visit : Visit) → Among visit visits → visit.level ≤ fold greatest_of before visits
level_at_most [] before visit m = absurd m
level_at_most (first ∷ more) before visit (inl e) =
    let rest : max before first.level ≤ fold greatest_of (max before first.level) more = no_less more (max before first.level) in
    let same : visit.level ≡ first.level = ap (λ (v : Visit). v.level) e in
    omega (arith, rest, same)
level_at_most (first ∷ more) before visit (inr m) = level_at_most more (max before first.level) visit m

any_kept : {A : Type 0} (test : A → Bool) (kept : Bool) (y : A) (more : List A) → kept ≡ true → test y ≡ true → list_any test (cond kept (y ∷ more) more) ≡ true
any_kept test true y more k t = or_left (test y) (list_any test more) t
any_kept test false y more k t = absurd (cc)

any_more : {A : Type 0} (test : A → Bool) (kept : Bool) (y : A) (more : List A) → list_any test more ≡ true → list_any test (cond kept (y ∷ more) more) ≡ true
any_more test true y more h = or_right (test y) (list_any test more) h
any_more test false y more h = h

any_filter : {A : Type 0} (test kept : A → Bool) (x : A) (xs : List A) → Among x xs → kept x ≡ true → test x ≡ true → list_any test (filter kept xs) ≡ true
any_filter test kept x [] m k t = absurd m
any_filter test kept x (y ∷ more) (inl e) k t = any_kept test (kept y) y (filter kept more) (subst (λ z. kept z ≡ true) e k) (subst (λ z. test z ≡ true) e t)
any_filter test kept x (y ∷ more) (inr m) k t = any_more test (kept y) y (filter kept more) (any_filter test kept x more m k t)

any_flat : {A B : Type 0} (test : B → Bool) (f : A → List B) (x : A) (xs : List A) → Among x xs → list_any test (f x) ≡ true → list_any test (flat_map f xs) ≡ true
any_flat test f x [] m h = absurd m
any_flat test f x (y ∷ more) (inl e) h = list_any-append test (f y) (flat_map f more) ∙ or_left (list_any test (f y)) (list_any test (flat_map f more)) (subst (λ z. list_any test (f z) ≡ true) e h)
any_flat test f x (y ∷ more) (inr m) h = list_any-append test (f y) (flat_map f more) ∙ or_right (list_any test (f y)) (list_any test (flat_map f more)) (any_flat test f x more m h)

-- a visit is to the dataset at a place
abbrev pub is_to : ℕ → Visit → Bool
is_to place visit = nat_eq visit.place place

in_order : (visits : List Visit) (visit : Visit) → Among visit visits → list_any (is_to visit.place) (by_level visits) ≡ true
in_order visits visit m =
    any_flat (is_to visit.place) (of_level visits) visit.level (levels_in visits)
    (in_range 0 (greatest_level visits + 1) visit.level (omega arith) (omega (arith, level_at_most visits 0 visit m)))
    (any_filter (is_to visit.place) (λ (v : Visit). nat_eq v.level visit.level) visit visits m (eq-eqb visit.level visit.level refl) (eq-eqb visit.place visit.place refl))

-- the dataset at each of these places is visited
abbrev pub AreVisited : List Visit → List ℕ → Type 0
AreVisited visits [] = Unit {0}
AreVisited visits (place ∷ more) = (list_any (is_to place) visits ≡ true) × AreVisited visits more

visited_with : (order : List Visit) (places levels : List ℕ) → length levels ≡ length places → ((visit : Visit) → Among visit (visits_with places levels) → list_any (is_to visit.place) order ≡ true) → AreVisited order places
visited_with order [] levels e h = tt
visited_with order (place ∷ places) [] e h = absurd (omega (arith, e))
visited_with order (place ∷ places) (level ∷ levels) e h = (h (visit_to place level) (inl refl), visited_with order places levels (omega (arith, e)) (λ visit m. h visit (inr m)))

-- by level the datasets at all places are visited, where each has a level
pub all_visited : (places levels : List ℕ) → length levels ≡ length places → AreVisited (by_level (visits_with places levels)) places
all_visited places levels e = visited_with (by_level (visits_with places levels)) places levels e (λ visit m. in_order (visits_with places levels) visit m)
