-- Answers of rows in order, put together of parts.
use Rattle.std.proofs.Common.{suc, ◌≡◌, ◌∙◌, refl, sym, ap, subst, ℕ, ◌+◌, ◌<◌, List, [], ◌∷◌, ◌++◌, length, get_or, arith}
use Rattle.par_rows.specs.Rows.{Answered, numbered}

-- the answers of rows, and of those that follow them
pub answered_append : {T R : Type 0} (P : ℕ → T → R → Type 0) (from : ℕ) (xs : List T) (rs : List R) (n : ℕ) (ys : List T) (ss : List R) → n ≡ from + length xs → Answered P from xs rs → Answered P n ys ss → Answered P from (xs ++ ys) (rs ++ ss)
answered_append P from [] [] n ys ss is a b =
    let e : from ≡ n = omega arith in
    subst (λ k. Answered P k ys ss) (sym e) b
answered_append P from [] (r ∷ rs) n ys ss is a b = absurd a
answered_append P from (x ∷ xs) [] n ys ss is a b = absurd a
answered_append P from (x ∷ xs) (r ∷ rs) n ys ss is a b = (a.0, answered_append P (from + 1) xs rs n ys ss (omega arith) a.1 b)

-- and of one row more
pub answered_more : {T R : Type 0} (P : ℕ → T → R → Type 0) (from : ℕ) (xs : List T) (rs : List R) (x : T) (r : R) → Answered P from xs rs → P (from + length xs) x r → Answered P from (xs ++ x ∷ []) (rs ++ r ∷ [])
answered_more P from xs rs x r a b = answered_append P from xs rs (from + length xs) (x ∷ []) (r ∷ []) refl a (b, tt)

-- what holds of each place holds of the lists
pub answered_each : {T R : Type 0} (P : ℕ → T → R → Type 0) (from : ℕ) (xs : List T) (rs : List R) → length xs ≡ length rs → ((k : ℕ) (x : T) (r : R) → k < length xs → P (from + k) (get_or xs k x) (get_or rs k r)) → Answered P from xs rs
answered_each P from [] [] same each = tt
answered_each P from [] (r ∷ rs) same each = absurd (omega arith)
answered_each P from (x ∷ xs) [] same each = absurd (omega arith)
answered_each P from (x ∷ xs) (r ∷ rs) same each =
    let here : from + 0 ≡ from = omega arith in
    let step : (k : ℕ) → from + suc k ≡ from + 1 + k = λ k. omega arith in (
      subst (λ n. P n x r) here (each 0 x r (omega arith)),
      answered_each P (from + 1) xs rs (omega arith) (λ k y s below. subst (λ n. P n (get_or xs k y) (get_or rs k s)) (step k) (each (suc k) y s (omega arith))),
    )

-- there are as many answers as rows
pub answered_length : {T R : Type 0} (P : ℕ → T → R → Type 0) (from : ℕ) (xs : List T) (rs : List R) → Answered P from xs rs → length rs ≡ length xs
answered_length P from [] [] a = refl
answered_length P from [] (r ∷ rs) a = absurd a
answered_length P from (x ∷ xs) [] a = absurd a
answered_length P from (x ∷ xs) (r ∷ rs) a = let e = answered_length P (from + 1) xs rs a.1 in omega arith

-- what each answer says, said of all
pub answered_as : {T R : Type 0} (P Q : ℕ → T → R → Type 0) → ((i : ℕ) (x : T) (r : R) → P i x r → Q i x r) → (from : ℕ) (xs : List T) (rs : List R) → Answered P from xs rs → Answered Q from xs rs
answered_as P Q says from [] [] a = tt
answered_as P Q says from [] (r ∷ rs) a = absurd a
answered_as P Q says from (x ∷ xs) [] a = absurd a
answered_as P Q says from (x ∷ xs) (r ∷ rs) a = (says from x r a.0, answered_as P Q says (from + 1) xs rs a.1)

-- where each answer is what one function gives, the answers are its list
pub answered_is : {T R : Type 0} (h : ℕ → T → R) (from : ℕ) (xs : List T) (rs : List R) → Answered (λ i x r. r ≡ h i x) from xs rs → rs ≡ numbered h from xs
answered_is h from [] [] a = refl
answered_is h from [] (r ∷ rs) a = absurd a
answered_is h from (x ∷ xs) [] a = absurd a
answered_is h from (x ∷ xs) (r ∷ rs) a = ap (λ y. y ∷ rs) a.0 ∙ ap (λ ys. h from x ∷ ys) (answered_is h (from + 1) xs rs a.1)
