-- The form of a change.
use Rattle.std.specs.Prelude.{◌≡◌, ◌<◌, ◌≤◌, List}
use Rattle.value_core.specs.declared.change.Change.{Change}
use Rattle.value_core.specs.Bags.{count_of, IsInOrder}
use Rattle.value_core.specs.Order.{Row}

-- no row is in both lists
abbrev pub IsApart : List Row → List Row → Type 0
IsApart xs ys = (row : Row) → 0 < count_of row xs → count_of row ys ≡ 0

-- the change with two lists
abbrev pub change_of : List Row → List Row → Change
change_of removed added = record { removed = removed; added = added }

-- both lists of a change are in row order, and no row is in both
abbrev pub IsChange : Change → Type 0
IsChange change = IsInOrder change.removed × IsInOrder change.added × IsApart change.removed change.added

-- a bag holds each row of another at least as often
abbrev pub Holds : List Row → List Row → Type 0
Holds xs ys = (row : Row) → count_of row ys ≤ count_of row xs
