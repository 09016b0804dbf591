-- The best of a bag of values by a test, which no order of the bag changes.
use Rattle.std.proofs.Common.{◌≡◌, ℕ, ◌+◌, ◌<◌, Bool, true, false, cond, if◌then◌else◌, List, [], ◌∷◌, refl, sym, ap, ◌∙◌, subst, arith}
use Rattle.std.specs.List.{count_by, fold, slice_index_or}
use Rattle.std.specs.declared.cmp.Ordering.{Ordering}
use Rattle.std.specs.declared.cmp.Ordering.TheVariants.{Less, Equal, Greater}
use Rattle.std.specs.Ordering.{is_gt, is_lt, ordering_reverse, ordering_then}
use Rattle.std.specs.Cmp.{upto, tied_itself, Equal-is}
use Rattle.std.proofs.lemmas.List.Sums.{sum_by-cons}
use Rattle.value_core.specs.declared.value.Value.{Value}
use Rattle.value_core.specs.declared.value.Value.TheVariants.{Null}
use Rattle.value_core.specs.Order.{value_order, same_value}
use Rattle.value_core.specs.OrderLaws.{value_order_total, rows_apart}

-- ---- values that the order doesn't tell apart are one

alone : (o : Ordering) → o ≡ Equal → ordering_then o Equal ≡ Equal
alone o e = ap (λ r. ordering_then r Equal) e

pub values_same : (a b : Value) → value_order a b ≡ Equal → a ≡ b
values_same a b e = ap (λ xs. slice_index_or xs 0 Null) (rows_apart (a ∷ []) (b ∷ []) (alone (value_order a b) e))

-- ---- which of two values a test puts before the other, where values that it puts in neither order are one

pub record Ranks (before : Value → Value → Bool) : Type 0 where
  pub itself : (a : Value) → before a a ≡ false
  pub flip : (a b : Value) → before a b ≡ true → before b a ≡ false
  pub trans : (a b c : Value) → before b a ≡ false → before c b ≡ false → before c a ≡ false
  pub apart : (a b : Value) → before a b ≡ false → before b a ≡ false → a ≡ b

abbrev pub pick : (Value → Value → Bool) → Value → Value → Value
pick before a b = if before b a then b else a

abbrev pub best : (Value → Value → Bool) → List Value → Value
best before [] = Null
best before (v ∷ vs) = fold (pick before) v vs

-- how often a value is held
abbrev pub times : Value → List Value → ℕ
times value values = count_by (same_value value) values

abbrev once : Value → Value → ℕ
once a b = cond (same_value a b) 1 0

times-cons : (a v : Value) (vs : List Value) → times a (v ∷ vs) ≡ once a v + times a vs
times-cons a v vs = sum_by-cons (once a) v vs

once-itself : (a : Value) → once a a ≡ 1
once-itself a = rw (tied_itself value_order_total a)

-- held, and no other that is held comes before it
pub record IsBest (before : Value → Value → Bool) (m : Value) (vs : List Value) : Type 0 where
  pub held : 0 < times m vs
  pub first : (v : Value) → 0 < times v vs → before v m ≡ false

held-one : (v a : Value) (test : Bool) → same_value v a ≡ test → 0 < cond test 1 0 → v ≡ a
held-one v a true e k = values_same v a ((Equal-is (value_order v a)).0 e)
held-one v a false e k = absurd (let none : ⊥ = omega arith in none)

one_or_rest : (P : Value → Type 0) (v a : Value) (vs : List Value) (test : Bool) → same_value v a ≡ test → P a → (0 < times v vs → P v) → 0 < cond test 1 0 + times v vs → P v
one_or_rest P v a vs true e p behind k = subst P (sym (held-one v a true e (omega arith))) p
one_or_rest P v a vs false e p behind k = behind (omega arith)

best_one : {before : Value → Value → Bool} → Ranks before → (a : Value) → IsBest before a (a ∷ [])
best_one {before = before} ranks a = record {
  held = omega (arith, times-cons a a [], once-itself a);
  first = λ v k. one_or_rest (λ x. before x a ≡ false) v a [] (same_value v a) refl (ranks.itself a) (λ j. absurd (let none : ⊥ = omega arith in none)) (subst (λ n. 0 < n) (times-cons v a []) k);
}

-- the better of two before the others, which both of the two don't come before
picked : {before : Value → Value → Bool} → Ranks before → (a b m : Value) (vs : List Value) (test : Bool) → before b a ≡ test → IsBest before m ((if test then b else a) ∷ vs) → IsBest before m (a ∷ b ∷ vs)
picked {before = before} ranks a b m vs true e best = record {
  held = omega (arith, best.held, times-cons m a (b ∷ vs), times-cons m b vs);
  first = λ v k. one_or_rest (λ x. before x m ≡ false) v a (b ∷ vs) (same_value v a) refl
      (ranks.trans m b a (best.first b (omega (arith, times-cons b b vs, once-itself b))) (ranks.flip b a e)) (best.first v) (subst (λ n. 0 < n) (times-cons v a (b ∷ vs)) k);
}
picked {before = before} ranks a b m vs false e best = record {
  held = omega (arith, best.held, times-cons m a (b ∷ vs), times-cons m b vs, times-cons m a vs);
  first = λ v k. one_or_rest (λ x. before x m ≡ false) v b (a ∷ vs) (same_value v b) refl
      (ranks.trans m a b (best.first a (omega (arith, times-cons a a vs, once-itself a))) e) (best.first v)
      (omega (arith, k, times-cons v a (b ∷ vs), times-cons v b vs, times-cons v a vs));
}

best_from : {before : Value → Value → Bool} → Ranks before → (a : Value) (vs : List Value) → IsBest before (fold (pick before) a vs) (a ∷ vs)
best_from ranks a [] = best_one ranks a
best_from {before = before} ranks a (b ∷ vs) = picked ranks a b (fold (pick before) (pick before a b) vs) vs (before b a) refl (best_from ranks (pick before a b) vs)

pub best_is : {before : Value → Value → Bool} → Ranks before → (v : Value) (vs : List Value) → IsBest before (best before (v ∷ vs)) (v ∷ vs)
best_is = best_from

-- two bests of bags that hold the same values are one
pub one_best : {before : Value → Value → Bool} → Ranks before → (a b : Value) (xs ys : List Value) → ((v : Value) → times v xs ≡ times v ys) → IsBest before a xs → IsBest before b ys → a ≡ b
one_best ranks a b xs ys same best other =
    ranks.apart a b (other.first a (omega (arith, same a, best.held))) (best.first b (omega (arith, same b, other.held)))

none_held : (v : Value) (vs : List Value) → 0 < times v (v ∷ vs)
none_held v vs = omega (arith, times-cons v v vs, once-itself v)

pub best_of_bag : {before : Value → Value → Bool} → Ranks before → (xs ys : List Value) → ((v : Value) → times v xs ≡ times v ys) → best before xs ≡ best before ys
best_of_bag ranks [] [] same = refl
best_of_bag ranks [] (y ∷ ys) same = absurd (let none : ⊥ = omega (arith, same y, none_held y ys) in none)
best_of_bag ranks (x ∷ xs) [] same = absurd (let none : ⊥ = omega (arith, same x, none_held x xs) in none)
best_of_bag {before = before} ranks (x ∷ xs) (y ∷ ys) same = one_best ranks (best before (x ∷ xs)) (best before (y ∷ ys)) (x ∷ xs) (y ∷ ys) same (best_is ranks x xs) (best_is ranks y ys)

-- ---- least and greatest

lt-flip : (o r : Ordering) → o ≡ ordering_reverse r → is_lt o ≡ is_gt r
lt-flip o Less e = ap is_lt e
lt-flip o Equal e = ap is_lt e
lt-flip o Greater e = ap is_lt e

gt-flip : (o r : Ordering) → o ≡ ordering_reverse r → is_lt o ≡ true → is_lt r ≡ false
gt-flip Less Less e h = cc
gt-flip Less Equal e h = cc
gt-flip Less Greater e h = refl
gt-flip Equal r e h = cc
gt-flip Greater r e h = cc

neither : (o r : Ordering) → o ≡ ordering_reverse r → is_lt o ≡ false → is_lt r ≡ false → o ≡ Equal
neither Less r e h k = cc
neither Equal r e h k = refl
neither Greater Less e h k = cc
neither Greater Equal e h k = cc
neither Greater Greater e h k = cc

abbrev pub below : Value → Value → Bool
below a b = is_lt (value_order a b)

pub below_gt : (a b : Value) → below a b ≡ is_gt (value_order b a)
below_gt a b = lt-flip (value_order a b) (value_order b a) (value_order_total.antisymm a b)

below-itself : (a : Value) → below a a ≡ false
below-itself a = ap is_lt (tied_itself value_order_total a)

pub least_ranks : Ranks below
least_ranks = record {
  itself = below-itself;
  flip = λ a b h. gt-flip (value_order a b) (value_order b a) (value_order_total.antisymm a b) h;
  trans = λ a b c h k. below_gt c a ∙ upto value_order_total a b c (sym (below_gt b a) ∙ h) (sym (below_gt c b) ∙ k);
  apart = λ a b h k. values_same a b (neither (value_order a b) (value_order b a) (value_order_total.antisymm a b) h k);
}

abbrev pub above : Value → Value → Bool
above a b = below b a

pub greatest_ranks : Ranks above
greatest_ranks = record {
  itself = below-itself;
  flip = λ a b h. least_ranks.flip b a h;
  trans = λ a b c h k. least_ranks.trans c b a k h;
  apart = λ a b h k. sym (least_ranks.apart b a h k);
}
