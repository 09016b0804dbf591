-- The groups that a change touches.
use Rattle.std.proofs.Common.{◌≡◌, ℕ, zero, suc, ◌+◌, ◌<◌, ◌≤◌, Bool, true, false, cond, List, [], ◌∷◌, ◌++◌, length, map, Option, Some, None, refl, sym, ap, ◌∙◌, subst, arith}
use Rattle.std.specs.Prelude.{is_some}
use Rattle.std.specs.List.{sum_by}
use Rattle.std.specs.List.Sorted.{IsStrictlySortedBy}
use Rattle.std.specs.Map.{keys_of}
use Rattle.std.proofs.lemmas.List.Sums.{sum_by-cons}
use Rattle.value_core.specs.Bags.{count_of}
use Rattle.value_core.specs.Changes.{Holds}
use Rattle.value_core.specs.Order.{Row, row_order, same_row}
use Rattle.value_core.specs.OrderLaws.{same_row_laws}
use Rattle.value_core.proofs.BagLemmas.{count-cons}
use Rattle.plan_core.specs.Sound.{is_empty}
use Rattle.flow_model.specs.Current.{distinct}
use Rattle.flow_model.specs.Views.{Share, members_of}
use Rattle.view_laws.specs.Touched.{Touches}
use Rattle.view_laws.proofs.Groups.{some, count-distinct}
use Rattle.view_laws.proofs.Weighing.{sum-held}
use Rattle.view_groups.proofs.WalkLemmas.{count_keys, keys_in_order}
use Rattle.view_patches.specs.declared.patch.Patch.{Patch}
use Rattle.view_patches.specs.declared.patch.Patches.{Patches}
use Rattle.view_patches.specs.Patches.{patch_at, IsPatch, PatchesFor, PatchesOf, groups_with}

one-at-most : (n : ℕ) (test : Bool) → n ≡ cond test 1 0 → n ≤ 1
one-at-most n true e = let k : n ≡ 1 = e in omega (arith, k)
one-at-most n false e = let k : n ≡ 0 = e in omega (arith, k)

-- a group that is no key has no patch, and none of its shares goes or comes
none-out : (out more : List Share) (had : Option Patch) (n : ℕ) → n ≡ cond (is_some had) 1 0 → n ≡ 0 → IsPatch had out more → out ≡ []
none-out out more None n e nil is = is.0
none-out out more (Some patch) n e nil is = absurd (let k : n ≡ 1 = e in let none : ⊥ = omega (arith, k, nil) in none)

none-more : (out more : List Share) (had : Option Patch) (n : ℕ) → n ≡ cond (is_some had) 1 0 → n ≡ 0 → IsPatch had out more → more ≡ []
none-more out more None n e nil is = is.1
none-more out more (Some patch) n e nil is = absurd (let k : n ≡ 1 = e in let none : ⊥ = omega (arith, k, nil) in none)

touches_of : (entries : List (Row × Patch)) (outs mores : List Share) → IsStrictlySortedBy row_order (keys_of entries) → PatchesFor entries outs mores → Touches (keys_of entries) outs mores
touches_of entries outs mores sorted patches = record {
  sorted = keys_in_order (keys_of entries) sorted;
  once = λ group. one-at-most (count_of group (keys_of entries)) (is_some (patch_at group entries)) (count_keys group entries sorted);
  none_out = λ group none. none-out (members_of group outs) (members_of group mores) (patch_at group entries) (count_of group (keys_of entries)) (count_keys group entries sorted) none (patches.at group);
  none_more = λ group none. none-more (members_of group outs) (members_of group mores) (patch_at group entries) (count_of group (keys_of entries)) (count_keys group entries sorted) none (patches.at group);
}

-- ---- no more groups than the shares are of

length-sum : {A : Type 0} (xs : List A) → length xs ≡ sum_by (λ _. 1) xs
length-sum [] = refl
length-sum (x ∷ xs) = omega (arith, length-sum xs, sum_by-cons (λ _. 1) x xs)

held-length : (xs ys : List Row) → Holds ys xs → length xs ≤ length ys
held-length xs ys holds = omega (arith, length-sum xs, length-sum ys, sum-held (λ _. 1) ys xs holds)

-- a group with a member is among the groups of the shares
counted-by : (a : Row) (s : Share) (shares : List Share) (test : Bool) → same_row s.group a ≡ test → (is_empty (members_of a shares) ≡ false → 0 < count_of a (map (λ t. t.group) shares))
    → is_empty (cond test (s ∷ members_of a shares) (members_of a shares)) ≡ false → 0 < cond test 1 0 + count_of a (map (λ t. t.group) shares)
counted-by a s shares true e behind some = omega arith
counted-by a s shares false e behind some = let more = behind some in omega (arith, more)

counted : (a : Row) (shares : List Share) → is_empty (members_of a shares) ≡ false → 0 < count_of a (map (λ t. t.group) shares)
counted a [] some = cc
counted a (s ∷ shares) some =
    let here : count_of a (map (λ t. t.group) (s ∷ shares)) ≡ cond (same_row s.group a) 1 0 + count_of a (map (λ t. t.group) shares) =
    count-cons a s.group (map (λ t. t.group) shares) ∙ ap (λ t. cond t 1 0 + count_of a (map (λ u. u.group) shares)) (same_row_laws.symm a s.group) in
    subst (λ n. 0 < n) (sym here) (counted-by a s shares (same_row s.group a) refl (counted a shares) some)

filter-append-by : (x : Share) (xs ys zs : List Share) (test : Bool) → zs ≡ xs ++ ys → cond test (x ∷ zs) zs ≡ cond test (x ∷ xs) xs ++ ys
filter-append-by x xs ys zs true e = ap (λ l. x ∷ l) e
filter-append-by x xs ys zs false e = e

pub members_append : (key : Row) (xs ys : List Share) → members_of key (xs ++ ys) ≡ members_of key xs ++ members_of key ys
members_append key [] ys = refl
members_append key (x ∷ xs) ys = filter-append-by x (members_of key xs) (members_of key ys) (members_of key (xs ++ ys)) (same_row x.group key) (members_append key xs ys)

some-of : (n : ℕ) → 0 < n → some n ≡ true
some-of zero k = absurd (let none : ⊥ = omega (arith, k) in none)
some-of (suc n) k = refl

held-by : (a : Row) (outs mores : List Share) (had : Option Patch) (n : ℕ) → n ≡ cond (is_some had) 1 0 → IsPatch had (members_of a outs) (members_of a mores) → n ≤ count_of a (groups_with (outs ++ mores))
held-by a outs mores None n e is = let k : n ≡ 0 = e in omega (arith, k)
held-by a outs mores (Some patch) n e is =
    let groups = map (λ t. t.group) (outs ++ mores) in
    let there : 0 < count_of a groups = counted a (outs ++ mores) (ap is_empty (members_append a outs mores) ∙ is.2) in
    let one : count_of a (distinct groups) ≡ 1 = count-distinct a groups ∙ ap (λ t. cond t 1 0) (some-of (count_of a groups) there) in
    let k : n ≡ 1 = e in
    omega (arith, k, one)

pub patches_of : (made : Patches) (outs mores : List Share) → IsStrictlySortedBy row_order (keys_of made.map.entries) → PatchesFor made.map.entries outs mores → PatchesOf made outs mores
patches_of made outs mores sorted patches = record {
  patches = patches;
  touches = touches_of made.map.entries outs mores sorted patches;
  few = held-length (keys_of made.map.entries) (groups_with (outs ++ mores)) (λ a. held-by a outs mores (patch_at a made.map.entries) (count_of a (keys_of made.map.entries)) (count_keys a made.map.entries sorted) (patches.at a));
}
