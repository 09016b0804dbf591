-- The groups of a bag, with those that a change touches apart from the rest.
use Rattle.std.proofs.Common.{◌≡◌, ℕ, zero, suc, ◌+◌, ◌≤◌, Bool, true, false, not, ◌||◌, cond, if◌then◌else◌, List, [], ◌∷◌, map, filter, refl, sym, ap, ◌∙◌, arith}
use Rattle.std.specs.List.{sum_by, list_any}
use Rattle.std.specs.Cmp.{Equal-is}
use Rattle.std.proofs.lemmas.List.Sums.{sum_by-cons}
use Rattle.std.proofs.lemmas.List.Filters.{sum_by-filter_both}
use Rattle.value_core.specs.Bags.{count_of}
use Rattle.value_core.specs.Order.{Row, row_order, same_row}
use Rattle.value_core.specs.OrderLaws.{rows_apart}
use Rattle.value_core.proofs.BagLemmas.{one, count-cons}
use Rattle.flow_model.specs.Current.{distinct}
use Rattle.view_laws.specs.Weights.{Moves}
use Rattle.view_laws.proofs.Weighing.{from_counts, sum-map}

-- whether a number is above 0
abbrev pub some : ℕ → Bool
some zero = false
some (suc n) = true

-- ---- how often a filter holds a row

differs-by : (p : Row → Bool) (a x : Row) (test : Bool) → same_row a x ≡ test → p a ≡ not (p x) → cond test 1 0 ≡ zero
differs-by p a x true e h = let same : p a ≡ p x = ap p (rows_apart a x ((Equal-is (row_order a x)).0 e)) in absurd (never (p x) (sym same ∙ h))
  where
    never : (t : Bool) → t ≡ not t → ⊥
    never true e = cc
    never false e = cc
differs-by p a x false e h = refl

differs : (p : Row → Bool) (a x : Row) → p a ≡ not (p x) → one a x ≡ 0
differs p a x h = differs-by p a x (same_row a x) refl h

count-filter-by : (p : Row → Bool) (a x : Row) (xs : List Row) (s t : Bool) → p a ≡ s → p x ≡ t → count_of a (filter p xs) ≡ cond s (count_of a xs) 0
    → count_of a (cond t (x ∷ filter p xs) (filter p xs)) ≡ cond s (one a x + count_of a xs) 0
count-filter-by p a x xs true true e h behind = omega (arith, behind, count-cons a x (filter p xs))
count-filter-by p a x xs true false e h behind = omega (arith, behind, differs p a x (e ∙ ap not (sym h)))
count-filter-by p a x xs false true e h behind = omega (arith, behind, count-cons a x (filter p xs), differs p a x (e ∙ ap not (sym h)))
count-filter-by p a x xs false false e h behind = behind

pub count-filter : (p : Row → Bool) (a : Row) (xs : List Row) → count_of a (filter p xs) ≡ cond (p a) (count_of a xs) 0
count-filter p a [] = none (p a)
  where
    none : (t : Bool) → zero ≡ cond t 0 0
    none true = refl
    none false = refl
count-filter p a (x ∷ xs) = count-filter-by p a x xs (p a) (p x) refl refl (count-filter p a xs) ∙ ap (λ n. cond (p a) n 0) (sym (count-cons a x xs))

-- ---- weights that agree where a filter passes

sum-agree-by : (f g : Row → ℕ) (p : Row → Bool) (x : Row) (xs : List Row) (test : Bool) → p x ≡ test → (p x ≡ true → f x ≡ g x) → sum_by f (filter p xs) ≡ sum_by g (filter p xs)
    → sum_by f (cond test (x ∷ filter p xs) (filter p xs)) ≡ sum_by g (cond test (x ∷ filter p xs) (filter p xs))
sum-agree-by f g p x xs true e same behind = omega (arith, sum_by-cons f x (filter p xs), sum_by-cons g x (filter p xs), same e, behind)
sum-agree-by f g p x xs false e same behind = behind

sum-agree : (f g : Row → ℕ) (p : Row → Bool) (xs : List Row) → ((x : Row) → p x ≡ true → f x ≡ g x) → sum_by f (filter p xs) ≡ sum_by g (filter p xs)
sum-agree f g p [] same = refl
sum-agree f g p (x ∷ xs) same = sum-agree-by f g p x xs (p x) refl (same x) (sum-agree f g p xs same)

-- ---- a list of distinct groups, with those touched and the rest

abbrev pub touches : List Row → Row → Bool
touches touched a = some (count_of a touched)

abbrev spares : List Row → Row → Bool
spares touched a = not (touches touched a)

pub untouched : (n : ℕ) → not (some n) ≡ true → n ≡ 0
untouched zero e = refl
untouched (suc n) e = cc

in-both : (n : ℕ) (p : Bool) → n ≤ 1 → cond (some n) (cond p 1 0) 0 ≡ cond p n 0
in-both zero true h = refl
in-both zero false h = refl
in-both (suc zero) true h = refl
in-both (suc zero) false h = refl
in-both (suc (suc n)) p h = absurd (let none : ⊥ = omega arith in none)

out-both : (n : ℕ) (p q : Bool) → (n ≡ 0 → p ≡ q) → cond (not (some n)) (cond p 1 0) 0 ≡ cond (not (some n)) (cond q 1 0) (zero)
out-both zero p q same = ap (λ t. cond t 1 zero) (same refl)
out-both (suc n) p q same = refl

-- which groups are there
pub record HasGroups (there : Row → Bool) (groups : List Row) : Type 0 where
  pub count : (a : Row) → count_of a groups ≡ cond (there a) 1 0

touched-part : (w : Row → ℕ) (there : Row → Bool) (groups touched : List Row) → HasGroups there groups → ((a : Row) → count_of a touched ≤ 1)
    → sum_by w (filter (touches touched) groups) ≡ sum_by w (filter there touched)
touched-part w there groups touched has single = from_counts (filter (touches touched) groups) (filter there touched) (λ a.
    count-filter (touches touched) a groups ∙ ap (λ n. cond (touches touched a) n 0) (has.count a) ∙ in-both (count_of a touched) (there a) (single a) ∙ sym (count-filter there a touched)) w

spared-part : (w : Row → ℕ) (there there' : Row → Bool) (groups groups' touched : List Row) → HasGroups there groups → HasGroups there' groups' → ((a : Row) → count_of a touched ≡ 0 → there a ≡ there' a)
    → sum_by w (filter (spares touched) groups) ≡ sum_by w (filter (spares touched) groups')
spared-part w there there' groups groups' touched has has' same = from_counts (filter (spares touched) groups) (filter (spares touched) groups') (λ a.
    count-filter (spares touched) a groups ∙ ap (λ n. cond (spares touched a) n 0) (has.count a) ∙ out-both (count_of a touched) (there a) (there' a) (same a)
    ∙ ap (λ n. cond (spares touched a) n 0) (sym (has'.count a)) ∙ sym (count-filter (spares touched) a groups')) w

-- where groups that aren't touched stay and keep their row, the rows of all groups move by those of the touched ones
pub groups_move : (f f' : Row → Row) (there there' : Row → Bool) (groups groups' touched : List Row) → HasGroups there groups → HasGroups there' groups' → ((a : Row) → count_of a touched ≤ 1)
    → ((a : Row) → count_of a touched ≡ 0 → there a ≡ there' a) → ((a : Row) → count_of a touched ≡ 0 → f a ≡ f' a)
    → Moves (map f groups) (map f (filter there touched)) (map f' (filter there' touched)) (map f' groups')
groups_move f f' there there' groups groups' touched has has' single same rows = record {
  sums = λ w.
      let u = λ (a : Row). w (f a) in
      let u' = λ (a : Row). w (f' a) in
      omega (
        arith,
        sum-map w f groups,
        sum-map w f (filter there touched),
        sum-map w f' (filter there' touched),
        sum-map w f' groups',
        sum_by-filter_both (touches touched) (spares touched) (λ _. refl) u groups,
        sum_by-filter_both (touches touched) (spares touched) (λ _. refl) u' groups',
        touched-part u there groups touched has single,
        touched-part u' there' groups' touched has' single,
        spared-part u there there' groups groups' touched has has' same,
        sum-agree u u' (spares touched) groups' (λ a e. ap w (rows a (untouched (count_of a touched) e))),
      );
}

-- the rows of the touched groups are a part of all
pub touched_within : (w : Row → ℕ) (f : Row → Row) (there : Row → Bool) (groups touched : List Row) → HasGroups there groups → ((a : Row) → count_of a touched ≤ 1)
    → sum_by w (map f (filter there touched)) ≤ sum_by w (map f groups)
touched_within w f there groups touched has single =
    let u = λ (a : Row). w (f a) in
    omega (arith, sum-map w f groups, sum-map w f (filter there touched), sum_by-filter_both (touches touched) (spares touched) (λ _. refl) u groups, touched-part u there groups touched has single)

-- ---- the rows without repeats

any-by : (n : ℕ) (t test : Bool) → t ≡ some n → test || t ≡ some (cond test 1 0 + n)
any-by n t true e = let k : suc n ≡ 1 + n = omega arith in ap some k
any-by n t false e = e ∙ ap some (omega arith)

pub any-held : (x : Row) (ys : List Row) → list_any (same_row x) ys ≡ some (count_of x ys)
any-held x [] = refl
any-held x (y ∷ ys) = any-by (count_of x ys) (list_any (same_row x) ys) (same_row x y) (any-held x ys) ∙ ap some (sym (count-cons x y ys))

abbrev least_one : ℕ → ℕ
least_one n = cond (some n) 1 0

again : (n k : ℕ) → some n ≡ true → k ≡ least_one n → k ≡ least_one (1 + n)
again zero k e h = cc
again (suc n) k e h = let m : 1 + suc n ≡ suc (suc n) = omega arith in h ∙ sym (ap least_one m)

first : (n k : ℕ) → some n ≡ false → k ≡ least_one n → 1 + k ≡ least_one (1 + n)
first zero k e h = omega (arith, h)
first (suc n) k e h = cc

count-distinct-by : (a x : Row) (xs : List Row) (test same : Bool) → some (count_of x xs) ≡ test → same_row a x ≡ same → count_of a (distinct xs) ≡ least_one (count_of a xs)
    → count_of a (if test then distinct xs else x ∷ distinct xs) ≡ least_one (cond same 1 0 + count_of a xs)
count-distinct-by a x xs true true e h behind =
    again (count_of a xs) (count_of a (distinct xs)) (ap (λ r. some (count_of r xs)) (rows_apart a x ((Equal-is (row_order a x)).0 h)) ∙ e) behind
count-distinct-by a x xs false true e h behind =
    count-cons a x (distinct xs) ∙ ap (λ t. cond t 1 0 + count_of a (distinct xs)) h
    ∙ first (count_of a xs) (count_of a (distinct xs)) (ap (λ r. some (count_of r xs)) (rows_apart a x ((Equal-is (row_order a x)).0 h)) ∙ e) behind
count-distinct-by a x xs true false e h behind = behind ∙ ap least_one (omega arith)
count-distinct-by a x xs false false e h behind =
    count-cons a x (distinct xs) ∙ ap (λ t. cond t 1 0 + count_of a (distinct xs)) h ∙ zero_more (count_of a (distinct xs)) ∙ behind ∙ ap least_one (omega arith)
  where
    zero_more : (n : ℕ) → 0 + n ≡ n
    zero_more n = omega arith

-- each row once
pub count-distinct : (a : Row) (xs : List Row) → count_of a (distinct xs) ≡ cond (some (count_of a xs)) 1 0
count-distinct a [] = refl
count-distinct a (x ∷ xs) = rw (any-held x xs) (count-distinct-by a x xs (some (count_of x xs)) (same_row a x) refl refl (count-distinct a xs)) ∙ ap least_one (sym (count-cons a x xs))
