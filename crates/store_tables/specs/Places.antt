-- Where the first item that passes a test stands in a list.
use Rattle.std.specs.Prelude.{◌≡◌, ℕ, zero, suc, List, [], ◌∷◌, Bool, true, false}

abbrev pub IsFirst : {X : Type 0} → (X → Bool) → List X → ℕ → Type 0
IsFirst test [] place = ⊥
IsFirst test (x ∷ xs) zero = test x ≡ true
IsFirst test (x ∷ xs) (suc place) = (test x ≡ false) × IsFirst test xs place
