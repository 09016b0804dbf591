-- The versions that are kept of a table.
use Rattle.std.specs.Prelude.{ℕ, ◌-◌, List, [], ◌∷◌, ◌++◌, length, take}
use Rattle.value_core.specs.declared.change.Change.{Change}
use Rattle.value_core.specs.Order.{Row}

-- rows at a base version, and the change of each version after it
pub record Versions : Type 0 where
  pub base : ℕ
  pub rows : List Row
  pub changes : List Change

-- empty at version 0
abbrev pub no_versions : Versions
no_versions = record { base = 0; rows = []; changes = [] }

-- one version more
abbrev pub grown : Versions → Change → Versions
grown table change = record table { changes = table.changes ++ change ∷ [] }

-- without the last version
abbrev pub shrunk : Versions → Versions
shrunk table = record table { changes = take (length table.changes - 1) table.changes }
