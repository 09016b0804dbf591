-- Rows as a map from each row to how often it is held.
use Rattle.std.specs.Prelude.{◌≡◌, ℕ, ◌+◌, ◌<◌, List, unwrap_or}
use Rattle.std.specs.BTreeMap.{is_at}
use Rattle.std.specs.Map.{lookup}
use Rattle.value_core.specs.declared.change.Change.{Change}
use Rattle.value_core.specs.Bags.{changed, count_of}
use Rattle.value_core.specs.Changes.{IsChange, Holds}
use Rattle.value_core.specs.Order.{Row, row_order}

-- how often a map says that a row is held
abbrev pub times_of : List (Row × ℕ) → Row → ℕ
times_of entries row = unwrap_or (lookup (is_at (row_order row)) entries) 0

-- a map says how often each row of a list is held
pub record CountsRows (entries : List (Row × ℕ)) (rows : List Row) : Type 0 where
  pub times : (row : Row) → times_of entries row ≡ count_of row rows

-- rows came into a map; where they go it is the other way round
pub record RowsCame (old new : List (Row × ℕ)) (rows : List Row) : Type 0 where
  pub times : (row : Row) → times_of new row ≡ times_of old row + count_of row rows

-- a map holds a row less often than a list does
abbrev pub Lacks : List (Row × ℕ) → List Row → Type 0
Lacks entries rows = (row : Row) × (times_of entries row < count_of row rows)

-- a change has the form of one, finds the rows that it removes, and leads from one map to another
pub record Advances (old new : List (Row × ℕ)) (change : Change) : Type 0 where
  pub leads : (rows : List Row) → CountsRows old rows → IsChange change × Holds rows change.removed × CountsRows new (changed rows change)

-- a change doesn't find the rows that it removes
abbrev pub FindsTooFew : List (Row × ℕ) → Change → Type 0
FindsTooFew old change = (rows : List Row) → CountsRows old rows → IsChange change → Holds rows change.removed → ⊥
