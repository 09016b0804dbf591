-- A table by its versions.
use Rattle.std.specs.Prelude.{◌≡◌, ℕ, ◌+◌, ◌-◌, ◌<◌, ◌≤◌, ◌^◌, List, [], ◌∷◌, ◌++◌, length, take, drop, sum_by}
use Rattle.value_core.specs.declared.change.Change.{Change}
use Rattle.value_core.specs.Bags.{IsInOrder}
use Rattle.value_core.specs.Order.{Row}
use Rattle.net_changes.specs.Chains.{content_after, Follow}

-- rows at a base version, and the change of each version after it
pub record Versions : Type 0 where
  pub base : ℕ
  pub rows : List Row
  pub changes : List Change

-- the table with these three parts
abbrev pub versions_of : ℕ → List Row → List Change → Versions
versions_of base rows changes = record { base = base; rows = rows; changes = changes }

-- empty at version 0
abbrev pub no_versions : Versions
no_versions = versions_of 0 [] []

-- the version now: one more for each change after the base
abbrev pub now_of : Versions → ℕ
now_of table = table.base + length table.changes

-- a version is kept from the base to the version now
abbrev pub IsKept : Versions → ℕ → Type 0
IsKept table version = (table.base ≤ version) × (version ≤ now_of table)

-- the rows at a version: those at the base after the changes up to that version, one after another
abbrev pub content_at : Versions → ℕ → List Row
content_at table version = content_after table.rows (take (version - table.base) table.changes)

-- the rows at the version now
abbrev pub content_now : Versions → List Row
content_now table = content_after table.rows table.changes

-- the changes after a version
abbrev pub changes_since : Versions → ℕ → List Change
changes_since table version = drop (version - table.base) table.changes

-- how many rows changes remove and add
abbrev pub rows_in : List Change → ℕ
rows_in changes = sum_by (λ change. length change.removed + length change.added) changes

-- one version more
abbrev pub grown : Versions → Change → Versions
grown table change = versions_of table.base table.rows (table.changes ++ change ∷ [])

-- without the last version, where there is one after the base
abbrev pub shrunk : Versions → Versions
shrunk table = versions_of table.base table.rows (take (length table.changes - 1) table.changes)

-- the same table, with this version for its base
abbrev pub folded : Versions → ℕ → Versions
folded table to = versions_of to (content_at table to) (changes_since table to)

-- the rows at the base stand in row order, each change finds the rows that it removes, and no change comes at version 2^62
pub record IsTable (table : Versions) : Type 0 where
  pub order : IsInOrder table.rows
  pub follow : Follow table.rows table.changes
  pub limit : 0 < length table.changes → now_of table ≤ 2 ^ 62
