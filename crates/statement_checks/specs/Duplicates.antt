-- Names that occur twice.
use Rattle.std.specs.Prelude.{ℕ, Bool, true, false, if◌then◌else◌, List, [], ◌∷◌, map, Option, Some, None, option_map}
use Rattle.std.specs.List.{list_any}
use Rattle.value_core.specs.NameFold.{same_name}
use Rattle.sql_tree.specs.declared.statement.SqlItem.{SqlItem}
use Rattle.sql_tree.specs.declared.statement.SqlItem.TheVariants as item
use Rattle.sql_tree.specs.declared.statement.Statement.{Statement}
use Rattle.statement_checks.specs.declared.fault.CheckFault.TheVariants.{Duplicate}
use Rattle.statement_checks.specs.Declares.{dataset_name, flow_name, items_of, item_name, name_lists}
use Rattle.statement_checks.specs.Limits.{Check}
use Rattle.statement_checks.specs.Repeats.{first_of, repeat_behind, first_repeat}

-- it is there, and this name but for the case of ASCII letters
abbrev pub is_named : List ℕ → Option (List ℕ) → Bool
is_named name None = false
is_named name (Some other) = same_name other name

-- a name, if there is one, is none of those that statements have
abbrev pub is_new : (Statement → Option (List ℕ)) → List Statement → Option (List ℕ) → Check
is_new name_of before None = None
is_new name_of before (Some name) = if list_any (λ other. is_named name (name_of other)) before then Some (Duplicate name) else None

-- no earlier dataset has the name
abbrev pub datasets_differ : List Statement → Statement → Check
datasets_differ before statement = is_new dataset_name before (dataset_name statement)

-- no earlier flow has the name
abbrev pub flows_differ : List Statement → Statement → Check
flows_differ before statement = is_new flow_name before (flow_name statement)

-- two columns of one name, or two expectations of one name
abbrev pub same_item : SqlItem → SqlItem → Bool
same_item (item.Column a type) (item.Column b kind) = same_name a b
same_item (item.Expect a test action) (item.Expect b other act) = same_name a b
same_item (item.Column a type) (item.Expect b test action) = false
same_item (item.Expect a test action) (item.Column b type) = false

-- the name of the first declared column or expectation that has the name of an earlier one
abbrev pub item_repeat : List SqlItem → Option (List ℕ)
item_repeat items = option_map item_name (repeat_behind same_item [] items)

-- declared columns differ in name, and so do declared expectations
abbrev pub items_differ : Statement → Check
items_differ statement = option_map Duplicate (item_repeat (items_of statement))

-- the first name of any clause that occurs in it before
abbrev pub clause_repeat : Statement → Option (List ℕ)
clause_repeat statement = first_of (map first_repeat (name_lists statement))

-- the names of a clause differ
abbrev pub clauses_differ : Statement → Check
clauses_differ statement = option_map Duplicate (clause_repeat statement)

-- of the names, in their order
abbrev pub name_checks : List Statement → Statement → List Check
name_checks before statement =
    datasets_differ before statement ∷
    flows_differ before statement ∷
    items_differ statement ∷
    clauses_differ statement ∷ []
