-- A map that counts the values of a bag, before and after a value comes or goes.
use Rattle.std.proofs.Common.{◌≡◌, ℕ, zero, suc, ◌+◌, ◌-◌, ◌<◌, ◌≤◌, Bool, true, false, cond, List, [], ◌∷◌, Option, Some, None, Result, Ok, Err, length, refl, sym, ap, ◌∙◌, subst, arith, rules}
use Rattle.std.specs.Prelude.{IsSome, IfOk, unwrap_or}
use Rattle.std.specs.BTreeMap.{is_at}
use Rattle.std.specs.Cmp.{Equal-is}
use Rattle.std.specs.Map.{lookup}
use Rattle.std.specs.Ordering.{is_gt, is_lt}
use Rattle.std.proofs.lemmas.List.Sums.{sum_by-cons}
use Rattle.value_core.specs.declared.value.Value.{Value}
use Rattle.value_core.specs.Order.{value_order, same_value}
use Rattle.value_core.specs.OrderLaws.{same_value_laws}
use Rattle.flow_model.specs.Views.{least, greatest}
use Rattle.view_groups.specs.Counted.{times, above_zero, CountsValues}
use Rattle.view_laws.proofs.Best.{values_same, Ranks, best, IsBest, best_is, one_best, least_ranks, greatest_ranks, below_gt}
use Rattle.view_laws.proofs.ViewLemmas.{least_best, greatest_best}

abbrev once : Value → Value → ℕ
once a b = cond (same_value a b) 1 0

times-cons : (a v : Value) (vs : List Value) → times a (v ∷ vs) ≡ once a v + times a vs
times-cons a v vs = sum_by-cons (once a) v vs

one-more : (n : ℕ) → above_zero (1 + n) ≡ Some (n + 1)
one-more n = let e : 1 + n ≡ suc n = omega arith in let f : suc n ≡ n + 1 = omega arith in ap above_zero e ∙ ap Some f

held-number : (n : ℕ) → unwrap_or (above_zero n) 0 ≡ n
held-number zero = refl
held-number (suc n) = refl

more-by : (old : List (Value × ℕ)) (value q : Value) (values : List Value) (n : ℕ) (test : Bool) → same_value value q ≡ test → n ≡ unwrap_or (lookup (is_at (value_order value)) old) 0 → CountsValues old values
    → cond test (Some (n + 1)) (lookup (is_at (value_order q)) old) ≡ above_zero (cond test 1 0 + times q values)
more-by old value q values n true e number counts =
    let same : value ≡ q = values_same value q ((Equal-is (value_order value q)).0 e) in
    let held : n ≡ times value values = number ∙ ap (λ o. unwrap_or o 0) (counts.at value) ∙ held-number (times value values) in
    ap (λ k. Some (k + 1)) (held ∙ ap (λ v. times v values) same) ∙ sym (one-more (times q values))
more-by old value q values n false e number counts = counts.at q ∙ ap above_zero (omega arith)

pub counts_more : (old new : List (Value × ℕ)) (value : Value) (n : ℕ) → n ≡ unwrap_or (lookup (is_at (value_order value)) old) 0
    → ((q : Value) → lookup (is_at (value_order q)) new ≡ cond (is_at (value_order value) q) (Some (n + 1)) (lookup (is_at (value_order q)) old))
    → (values : List Value) → CountsValues old values → CountsValues new (value ∷ values)
counts_more old new value n number updates values counts = record {
  at = λ q. updates q ∙ more-by old value q values n (same_value value q) refl number counts
      ∙ ap (λ t. above_zero (cond t 1 0 + times q values)) (same_value_laws.symm value q) ∙ ap above_zero (sym (times-cons q value values));
}

-- ---- a value goes

-- what is left of a number of which one is taken
abbrev pub one_less : ℕ → Option ℕ
one_less n = above_zero (n - 1)

less-by : (old : List (Value × ℕ)) (value q : Value) (values : List Value) (test : Bool) → same_value value q ≡ test → CountsValues old (value ∷ values)
    → cond test (one_less (times value (value ∷ values))) (lookup (is_at (value_order q)) old) ≡ above_zero (times q values)
less-by old value q values true e counts =
    let same : value ≡ q = values_same value q ((Equal-is (value_order value q)).0 e) in
    let itself : once value value ≡ 1 = ap (λ t. cond t 1 0) (same_value_laws.refl value) in
    let left : times value (value ∷ values) - 1 ≡ times value values = omega (arith, times-cons value value values, itself) in
    ap above_zero (left ∙ ap (λ v. times v values) same)
less-by old value q values false e counts =
    let apart : once q value ≡ 0 = ap (λ t. cond t 1 0) (sym (same_value_laws.symm value q) ∙ e) in
    counts.at q ∙ ap above_zero (omega (arith, times-cons q value values, apart))

pub counts_less : (old new : List (Value × ℕ)) (value : Value) (values : List Value)
    → ((q : Value) → lookup (is_at (value_order q)) new ≡ cond (is_at (value_order value) q) (one_less (times value (value ∷ values))) (lookup (is_at (value_order q)) old))
    → CountsValues old (value ∷ values) → CountsValues new values
counts_less old new value values updates counts = record { at = λ q. updates q ∙ less-by old value q values (same_value value q) refl counts }

-- how often the value that goes was held
held-times : (old : List (Value × ℕ)) (value : Value) (values : List Value) (n : ℕ) → n ≡ unwrap_or (lookup (is_at (value_order value)) old) 0 → CountsValues old (value ∷ values) → n ≡ times value (value ∷ values)
held-times old value values n held counts = held ∙ ap (λ o. unwrap_or o 0) (counts.at value) ∙ held-number (times value (value ∷ values))

-- more than one: a write of one less
pub counts_written : (old new : List (Value × ℕ)) (value : Value) (n : ℕ) → n ≡ unwrap_or (lookup (is_at (value_order value)) old) 0 → 2 ≤ n
    → ((q : Value) → lookup (is_at (value_order q)) new ≡ cond (is_at (value_order value) q) (Some (n - 1)) (lookup (is_at (value_order q)) old))
    → (values : List Value) → CountsValues old (value ∷ values) → CountsValues new values
counts_written old new value n held more updates values counts =
    counts_less old new value values (λ q. updates q ∙ ap (λ o. cond (is_at (value_order value) q) o (lookup (is_at (value_order q)) old)) (written n (times value (value ∷ values)) more (held-times old value values n held counts))) counts
  where
    written : (n k : ℕ) → 2 ≤ n → n ≡ k → Some (n - 1) ≡ one_less k
    written zero k more e = absurd (let none : ⊥ = omega arith in none)
    written (suc zero) k more e = absurd (let none : ⊥ = omega arith in none)
    written (suc (suc n)) k more e = let left : k - 1 ≡ suc n = omega arith in let same : suc (suc n) - 1 ≡ suc n = omega arith in ap Some same ∙ sym (ap above_zero left)

last-one : (k : ℕ) → k < 2 → None ≡ one_less k
last-one k e = let left : k - 1 ≡ 0 = omega arith in sym (ap above_zero left)

-- one at most: the entry goes
pub counts_removed : (old new : List (Value × ℕ)) (value : Value) (n : ℕ) → n ≡ unwrap_or (lookup (is_at (value_order value)) old) 0 → n < 2
    → ((q : Value) → lookup (is_at (value_order q)) new ≡ cond (is_at (value_order value) q) None (lookup (is_at (value_order q)) old))
    → (values : List Value) → CountsValues old (value ∷ values) → CountsValues new values
counts_removed old new value n held few updates values counts =
    counts_less old new value values (λ q. updates q ∙ ap (λ o. cond (is_at (value_order value) q) o (lookup (is_at (value_order q)) old))
    (last-one (times value (value ∷ values)) (subst (λ k. k < 2) (held-times old value values n held counts) few))) counts

-- a value that isn't there was held at most once
pub no_entry : (old : List (Value × ℕ)) (value : Value) (n : ℕ) → n ≡ unwrap_or (lookup (is_at (value_order value)) old) 0 → 2 ≤ n → lookup (is_at (value_order value)) old ≡ None → ⊥
no_entry old value n held more none = let z : n ≡ 0 = held ∙ ap (λ o. unwrap_or o 0) none in omega arith

-- ---- least and greatest

is-there : (n : ℕ) → 0 < n → IsSome (above_zero n)
is-there zero k = absurd (let none : ⊥ = omega arith in none)
is-there (suc n) k = search rules

held-some : (es : List (Value × ℕ)) (v : Value) (n : ℕ) (values : List Value) → CountsValues es values → lookup (is_at (value_order v)) es ≡ Some n → 0 < times v values
held-some es v n values counts e = positive (times v values) (sym (counts.at v) ∙ e)
  where
    positive : (k : ℕ) → above_zero k ≡ Some n → 0 < k
    positive zero h = cc
    positive (suc k) h = omega arith

there-of : (es : List (Value × ℕ)) (v : Value) (values : List Value) → CountsValues es values → 0 < times v values → IsSome (lookup (is_at (value_order v)) es)
there-of es v values counts k = subst IsSome (sym (counts.at v)) (is-there (times v values) k)

best-of : {before : Value → Value → Bool} → Ranks before → (m : Value) (values : List Value) → IsBest before m values → m ≡ best before values
best-of ranks m [] is = absurd (let k : 0 < times m [] = is.held in let none : ⊥ = omega arith in none)
best-of {before = before} ranks m (v ∷ vs) is = one_best ranks m (best before (v ∷ vs)) (v ∷ vs) (v ∷ vs) (λ x. refl) is (best_is ranks v vs)

pub least_found : (es : List (Value × ℕ)) (m : Value) (n : ℕ) → lookup (is_at (value_order m)) es ≡ Some n → ((q : Value) → IsSome (lookup (is_at (value_order q)) es) → is_gt (value_order m q) ≡ false)
    → (values : List Value) → CountsValues es values → m ≡ least values
least_found es m n held bound values counts =
    best-of least_ranks m values (record { held = held-some es m n values counts held; first = λ v k. below_gt v m ∙ bound v (there-of es v values counts k) }) ∙ sym (least_best values)

pub greatest_found : (es : List (Value × ℕ)) (m : Value) (n : ℕ) → lookup (is_at (value_order m)) es ≡ Some n → ((q : Value) → IsSome (lookup (is_at (value_order q)) es) → is_lt (value_order m q) ≡ false)
    → (values : List Value) → CountsValues es values → m ≡ greatest values
greatest_found es m n held bound values counts =
    best-of greatest_ranks m values (record { held = held-some es m n values counts held; first = λ v k. bound v (there-of es v values counts k) }) ∙ sym (greatest_best values)

pub no_values : (es : List (Value × ℕ)) → (0 < length es → ⊥) → (values : List Value) → CountsValues es values → values ≡ []
no_values es none [] counts = refl
no_values [] none (v ∷ vs) counts = absurd (never (times v (v ∷ vs)) (counts.at v) (omega (arith, times-cons v v vs, ap {B = ℕ} (λ t. cond t 1 0) (same_value_laws.refl v))))
  where
    never : (k : ℕ) → None ≡ above_zero k → 0 < k → ⊥
    never zero e h = omega arith
    never (suc k) e h = cc
no_values (e ∷ es) none (v ∷ vs) counts = absurd (none (omega arith))

pub found : {A E : Type 0} (r : Result A E) (P Q : A → Type 0) → IfOk r P → ((a : A) → P a → Q a) → IfOk r Q
found (Ok a) P Q p step = step a p
found (Err e) P Q p step = p
