-- Some statements of a list.
use Rattle.std.specs.Prelude.{ℕ, List, filter_map, slice_get}
use Rattle.sql_tree.specs.declared.statement.Statement.{Statement}

-- the statements at these places, in the order of the places
abbrev pub statements_at : List Statement → List ℕ → List Statement
statements_at list places = filter_map (slice_get list) places
