-- What a statement declares, and the lists of names in its clauses.
use Rattle.std.specs.Prelude.{ℕ, Bool, true, false, List, [], ◌∷◌, map, Option, Some, None}
use Rattle.sql_tree.specs.declared.statement.CdcTree.{CdcTree}
use Rattle.sql_tree.specs.declared.statement.Out.{Out}
use Rattle.sql_tree.specs.declared.statement.Out.TheVariants as out
use Rattle.sql_tree.specs.declared.statement.Select.{Select}
use Rattle.sql_tree.specs.declared.statement.SqlItem.{SqlItem}
use Rattle.sql_tree.specs.declared.statement.SqlItem.TheVariants as item
use Rattle.sql_tree.specs.declared.statement.SqlSequence.{SqlSequence}
use Rattle.sql_tree.specs.declared.statement.SqlSequence.TheVariants as sequence
use Rattle.sql_tree.specs.declared.statement.SqlSome.{SqlSome}
use Rattle.sql_tree.specs.declared.statement.SqlSome.TheVariants as some
use Rattle.sql_tree.specs.declared.statement.Statement.{Statement}
use Rattle.sql_tree.specs.declared.statement.Statement.TheVariants as statement

-- ---- what a statement declares

-- the dataset that a statement declares
abbrev pub dataset_name : Statement → Option (List ℕ)
dataset_name (statement.Table name items select) = Some name
dataset_name (statement.View name items select) = Some name
dataset_name (statement.Insert flow target select) = None
dataset_name (statement.Cdc flow rest) = None

-- a streaming table with AS has a flow of its own name
abbrev pub flow_of_table : List ℕ → Option Select → Option (List ℕ)
flow_of_table name None = None
flow_of_table name (Some select) = Some name

-- the flow that a statement declares
abbrev pub flow_name : Statement → Option (List ℕ)
flow_name (statement.Table name items select) = flow_of_table name select
flow_name (statement.View name items select) = None
flow_name (statement.Insert flow target select) = Some flow
flow_name (statement.Cdc flow rest) = Some flow

-- the columns and expectations that a statement declares
abbrev pub items_of : Statement → List SqlItem
items_of (statement.Table name items select) = items
items_of (statement.View name items select) = items
items_of (statement.Insert flow target select) = []
items_of (statement.Cdc flow rest) = []

abbrev pub is_column : SqlItem → Bool
is_column (item.Column name type) = true
is_column (item.Expect name test action) = false

abbrev pub is_expectation : SqlItem → Bool
is_expectation (item.Column name type) = false
is_expectation (item.Expect name test action) = true

abbrev pub item_name : SqlItem → List ℕ
item_name (item.Column name type) = name
item_name (item.Expect name test action) = name

-- ---- lists of names

-- the names in KEYS
abbrev pub keys_of : Statement → List (List ℕ)
keys_of (statement.Table name items select) = []
keys_of (statement.View name items select) = []
keys_of (statement.Insert flow target select) = []
keys_of (statement.Cdc flow rest) = rest.keys

-- the names in STRUCT
abbrev pub struct_names : SqlSequence → List (List ℕ)
struct_names (sequence.One name) = []
struct_names (sequence.Struct names) = names

-- the parts of a sequence of several
abbrev pub parts_of : Statement → List (List ℕ)
parts_of (statement.Table name items select) = []
parts_of (statement.View name items select) = []
parts_of (statement.Insert flow target select) = []
parts_of (statement.Cdc flow rest) = struct_names rest.sequence

-- the names behind COLUMNS or TRACK HISTORY ON, with EXCEPT or without
abbrev pub some_names : Option SqlSome → List (List ℕ)
some_names None = []
some_names (Some (some.Except names)) = names
some_names (Some (some.Only names)) = names

-- the names behind EXCEPT in an output
abbrev pub except_names : Out → List (List ℕ)
except_names (out.Star except) = except
except_names (out.One expr name) = []

abbrev pub lists_of_select : Select → List (List (List ℕ))
lists_of_select select = map except_names select.outs

abbrev pub lists_of_table : Option Select → List (List (List ℕ))
lists_of_table None = []
lists_of_table (Some select) = lists_of_select select

abbrev pub lists_of_cdc : CdcTree → List (List (List ℕ))
lists_of_cdc rest = rest.keys ∷ struct_names rest.sequence ∷ some_names rest.columns ∷ some_names rest.track ∷ []

-- the lists of names in the clauses of a statement, in the order of the text
abbrev pub name_lists : Statement → List (List (List ℕ))
name_lists (statement.Table name items select) = lists_of_table select
name_lists (statement.View name items select) = lists_of_select select
name_lists (statement.Insert flow target select) = lists_of_select select
name_lists (statement.Cdc flow rest) = lists_of_cdc rest
