-- What the calls of a function at each number and row may give, in row order.
use Rattle.std.specs.Prelude.{◌≡◌, ℕ, ◌+◌, ◌<◌, List, [], ◌∷◌, length, slice_index_or}
use denote.Ref.{Bor}
use denote.Param.Members.{Shared}

-- P holds of each number, row and answer, where the first row has the number from, and there is one answer for each row
abbrev pub Answered : {T R : Type 0} → (ℕ → T → R → Type 0) → ℕ → List T → List R → Type 0
Answered P from [] [] = Unit {0}
Answered P from [] (r ∷ answers) = ⊥
Answered P from (x ∷ rows) [] = ⊥
Answered P from (x ∷ rows) (r ∷ answers) = P from x r × Answered P (from + 1) rows answers

-- the list of h(i, row i), where the first row has the number from
abbrev pub numbered : {T R : Type 0} → (ℕ → T → R) → ℕ → List T → List R
numbered h from [] = []
numbered h from (x ∷ rows) = h from x ∷ numbered h (from + 1) rows

module _ {F T R : Type 0} (g : Shared F (ℕ × (Bor T × Unit {0})) R) (f : F) where
  -- f may be called at each row with its number, where the first has the number from
  abbrev pub TakesRows : ℕ → List T → Type 0
  TakesRows from rows = (k : ℕ) (p : Bor T) → k < length rows → p.now ≡ slice_index_or rows k p.now → g.pre f (from + k, (p, tt))

  -- the same of each row whose number is of these, from number 0 on
  abbrev pub TakesSome : (ℕ → Type 0) → List T → Type 0
  TakesSome of_these rows = (k : ℕ) (p : Bor T) → k < length rows → of_these k → p.now ≡ slice_index_or rows k p.now → g.pre f (k, (p, tt))

  -- r is an answer that f may give at number i and row x
  pub record GivesRow (i : ℕ) (x : T) (r : R) : Type 0 where
    pub lent : Bor T
    pub lent_is : lent.now ≡ x
    pub call : g.post f (i, (lent, tt)) r
