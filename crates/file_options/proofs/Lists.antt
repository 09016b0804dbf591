-- Columns that are listed, behind those that were found.
use Rattle.std.proofs.Common.{List, ◌++◌, Option, option_map}
use Rattle.value_core.specs.declared.schema.Column.{Column}

-- the columns found and those that are left, if they are there
abbrev pub behind : List Column → Option (List Column) → Option (List Column)
behind found more = option_map (λ others. found ++ others) more
