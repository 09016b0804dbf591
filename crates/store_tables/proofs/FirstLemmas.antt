-- The first item that passes a test.
use Rattle.std.proofs.Common.{◌≡◌, ℕ, zero, suc, ◌+◌, ◌<◌, ◌≤◌, Bool, true, false, cond, List, [], ◌∷◌, length, drop, get_or, Option, Some, None, refl, sym, ap, ◌∙◌, subst, arith}
use Rattle.std.specs.Prelude.{find}
use Rattle.std.proofs.lemmas.List.{drop_more, drop_all}
use Rattle.store_tables.specs.Places.{IsFirst}

-- the item at a place, and what is left behind it
left : {X : Type 0} (xs : List X) (i : ℕ) (x : X) → i < length xs → x ≡ get_or xs i x → drop i xs ≡ x ∷ drop (i + 1) xs
left xs i x h e = subst (λ y. drop i xs ≡ y ∷ drop (i + 1) xs) (sym e) (drop_more xs i x h)

-- what a search keeps: what is left has the answer
pub record Seeks {X : Type 0} (test : X → Bool) (xs : List X) (i : ℕ) : Type 0 where
  pub same : find test (drop i xs) ≡ find test xs
  pub place : (k : ℕ) → IsFirst test (drop i xs) k → IsFirst test xs (i + k)

find-cons : {X : Type 0} (test : X → Bool) (x : X) (xs : List X) → test x ≡ false → find test (x ∷ xs) ≡ find test xs
find-cons test x xs e = rw e refl

pub seeks-first : {X : Type 0} (test : X → Bool) (xs : List X) → Seeks test xs 0
seeks-first test xs = record { same = refl; place = λ k h. subst (IsFirst test xs) (omega arith) h }

pub seeks-next : {X : Type 0} (test : X → Bool) (xs : List X) (i : ℕ) (x : X) → i < length xs → x ≡ get_or xs i x → test x ≡ false → Seeks test xs i → Seeks test xs (i + 1)
seeks-next test xs i x h e fails s =
    let split : drop i xs ≡ x ∷ drop (i + 1) xs = left xs i x h e in
    record {
      same = sym (find-cons test x (drop (i + 1) xs) fails) ∙ ap (find test) (sym split) ∙ s.same;
      place = λ k first.
          let here : IsFirst test (drop i xs) (suc k) = subst (λ ys. IsFirst test ys (suc k)) (sym split) (fails, first) in
          let e : i + suc k ≡ i + 1 + k = omega arith in
          subst (IsFirst test xs) e (s.place (suc k) here);
    }

pub seeks-here : {X : Type 0} (test : X → Bool) (xs : List X) (i : ℕ) (x : X) → i < length xs → x ≡ get_or xs i x → test x ≡ true → Seeks test xs i → IsFirst test xs i
seeks-here test xs i x h e passes s =
    let split : drop i xs ≡ x ∷ drop (i + 1) xs = left xs i x h e in
    let here : IsFirst test (drop i xs) zero = subst (λ ys. IsFirst test ys zero) (sym split) passes in
    let e : i + zero ≡ i = omega arith in
    subst (IsFirst test xs) e (s.place zero here)

pub seeks-end : {X : Type 0} (test : X → Bool) (xs : List X) (i : ℕ) → length xs ≤ i → Seeks test xs i → find test xs ≡ None
seeks-end test xs i h s = sym s.same ∙ ap (find test) (drop_all i xs h)

find-passes : {X : Type 0} (test : X → Bool) (x : X) (xs : List X) → test x ≡ true → find test (x ∷ xs) ≡ Some x
find-passes test x xs e = rw e refl

pub seeks-found : {X : Type 0} (test : X → Bool) (xs : List X) (i : ℕ) (x : X) → i < length xs → x ≡ get_or xs i x → test x ≡ true → find test (drop i xs) ≡ find test xs → Some x ≡ find test xs
seeks-found test xs i x h e passes s = sym (find-passes test x (drop (i + 1) xs) passes) ∙ ap (find test) (sym (left xs i x h e)) ∙ s

-- ---- cases

pub by_cases : (test : Bool) {P : Type 0} → (test ≡ true → P) → (test ≡ false → P) → P
by_cases true f g = f refl
by_cases false f g = g refl

none-split-by : {X : Type 0} (x : X) (test : Bool) (rest : Option X) → cond test (Some x) rest ≡ None → (test ≡ false) × (rest ≡ None)
none-split-by x true rest e = let wrong : ⊥ = cc in absurd wrong
none-split-by x false rest e = (refl, e)

-- where none passes, the first doesn't, and none behind it does
pub none-split : {X : Type 0} (test : X → Bool) (x : X) (xs : List X) → find test (x ∷ xs) ≡ None → (test x ≡ false) × (find test xs ≡ None)
none-split test x xs e = none-split-by x (test x) (find test xs) e

-- there is an item at each place
pub item-at : {X : Type 0} (xs : List X) (i : ℕ) → i < length xs → (x : X) × (x ≡ get_or xs i x)
item-at [] i h = absurd (omega arith)
item-at (x ∷ xs) zero h = (x, refl)
item-at (x ∷ xs) (suc i) h = item-at xs i (omega (arith, h))
