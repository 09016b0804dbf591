-- Names of files in ascending order.
use Rattle.std.specs.Prelude.{◌≡◌, ℕ, List, [], ◌∷◌}
use Rattle.std.specs.declared.cmp.Ordering.TheVariants.{Less}
use Rattle.std.specs.Ordering.{nat_cmp}
use Rattle.std.specs.Cmp.Lexicographic.{slice_cmp}

-- a name stands before the first of these, by its bytes
abbrev pub IsBefore : List ℕ → List (List ℕ) → Type 0
IsBefore name [] = Unit {0}
IsBefore name (next ∷ more) = slice_cmp nat_cmp name next ≡ Less

-- names in strictly ascending order of their bytes
abbrev pub AreAscending : List (List ℕ) → Type 0
AreAscending [] = Unit {0}
AreAscending (name ∷ more) = IsBefore name more × AreAscending more
