-- The datasets that a statement fills and reads.
use Rattle.std.specs.Prelude.{ℕ, List, Option, Some, None, option_and_then}
use Rattle.sql_tree.specs.declared.statement.Select.{Select}
use Rattle.sql_tree.specs.declared.statement.SqlOrigin.{SqlOrigin}
use Rattle.sql_tree.specs.declared.statement.SqlOrigin.TheVariants as origin
use Rattle.sql_tree.specs.declared.statement.Statement.{Statement}
use Rattle.sql_tree.specs.declared.statement.Statement.TheVariants as statement

-- the view that a statement declares
abbrev pub view_name : Statement → Option (List ℕ)
view_name (statement.Table name items select) = None
view_name (statement.View name items select) = Some name
view_name (statement.Insert flow target select) = None
view_name (statement.Cdc flow feed) = None

-- the dataset that a flow of its own fills
abbrev pub target_name : Statement → Option (List ℕ)
target_name (statement.Table name items select) = None
target_name (statement.View name items select) = None
target_name (statement.Insert flow target select) = Some target
target_name (statement.Cdc flow feed) = Some feed.target

-- the dataset that is filled, by its own query or by a flow
abbrev pub reader_name : Statement → Option (List ℕ)
reader_name (statement.Table name items select) = Some name
reader_name (statement.View name items select) = Some name
reader_name (statement.Insert flow target select) = Some target
reader_name (statement.Cdc flow feed) = Some feed.target

-- the dataset that is read, and not files
abbrev pub origin_name : SqlOrigin → Option (List ℕ)
origin_name (origin.Table stream name) = Some name
origin_name (origin.Files stream path options) = None

abbrev pub select_source : Select → Option (List ℕ)
select_source select = origin_name select.origin

-- the dataset that a statement reads
abbrev pub source_name : Statement → Option (List ℕ)
source_name (statement.Table name items select) = option_and_then select_source select
source_name (statement.View name items select) = select_source select
source_name (statement.Insert flow target select) = select_source select
source_name (statement.Cdc flow feed) = origin_name feed.origin
