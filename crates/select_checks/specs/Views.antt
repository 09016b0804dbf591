-- What the query of a view gives, or the first check that it breaks. Databricks SQL reference, SELECT, GROUP BY and aggregate
-- functions.
use Rattle.std.specs.Prelude.{ℕ, ◌+◌, Bool, true, not, ◌&&◌, if◌then◌else◌, List, [], ◌∷◌, map, flat_map, position, Option, Some, None, is_some, is_none, option_map, option_and_then, option_to_list, Result}
use Rattle.std.specs.List.{list_all}
use Rattle.value_core.specs.declared.schema.Column.{Column}
use Rattle.value_core.specs.declared.value.Kind.{Kind}
use Rattle.sql_tree.specs.declared.expr.SqlArm.{SqlArm}
use Rattle.sql_tree.specs.declared.expr.SqlExpr.{SqlExpr}
use Rattle.sql_tree.specs.declared.expr.SqlExpr.TheOpen.{SqlExpr-F}
use Rattle.sql_tree.specs.declared.expr.SqlExpr.TheOpen as form
use Rattle.sql_tree.specs.declared.expr.SqlExpr.TheViews.{out-SqlExpr}
use Rattle.sql_tree.specs.declared.statement.Out.{Out}
use Rattle.sql_tree.specs.declared.statement.Out.TheVariants as out
use Rattle.sql_tree.specs.declared.statement.Select.{Select}
use Rattle.row_expr.specs.declared.expr.Expr.{Expr}
use Rattle.plan_core.specs.declared.query.Item.{Item}
use Rattle.plan_core.specs.declared.query.Item.TheVariants as item
use Rattle.plan_core.specs.Sound.{kinds_of, item_kind}
use Rattle.statement_checks.specs.declared.fault.CheckFault.{CheckFault}
use Rattle.statement_checks.specs.declared.fault.CheckFault.TheVariants.{TypeMismatch, NotGrouped}
use Rattle.statement_checks.specs.Limits.{Check}
use Rattle.statement_checks.specs.Repeats.{first_of}
use Rattle.tree_equality.specs.TreeCodes.{equal_place}
use Rattle.select_names.specs.Aggregates.{is_aggregate_call, is_grouped_select}
use Rattle.select_names.specs.SelectNames.{names_are_columns, out_name, outputs_are_named, outputs_differ}
use Rattle.select_checks.specs.declared.kinded.KindedExpr.{KindedExpr}
use Rattle.select_checks.specs.declared.items.ItemOutput.{ItemOutput}
use Rattle.select_checks.specs.declared.items.KindedItem.{KindedItem}
use Rattle.select_checks.specs.declared.outputs.SelectOutput.{SelectOutput}
use Rattle.select_checks.specs.declared.view.ViewSelect.{ViewSelect}
use Rattle.select_checks.specs.Kinded.{typed_tree, kinded_tree, filter_over, is_filter}
use Rattle.select_checks.specs.Outputs.{column_of, select_outputs}
use Rattle.select_checks.specs.Streams.{given_unless}

-- ---- groups

-- GROUP BY over the columns that are read
abbrev pub groups_over : List Column → List SqlExpr → List KindedExpr
groups_over source groups = flat_map (λ tree. option_to_list (kinded_tree source tree)) groups

abbrev pub group_exprs : List KindedExpr → List Expr
group_exprs groups = map (λ group. group.expr) groups

abbrev pub group_kinds : List KindedExpr → List Kind
group_kinds groups = map (λ group. group.kind) groups

-- ---- the items of a grouped query

abbrev pub aggregate_of : List Column → SqlExpr-F SqlExpr SqlArm → Option Item
aggregate_of source form.CountAll = Some item.CountAll
aggregate_of source (form.Count a) = option_map item.Count (typed_tree source a)
aggregate_of source (form.Sum a) = option_map item.Sum (typed_tree source a)
aggregate_of source (form.Min a) = option_map item.Min (typed_tree source a)
aggregate_of source (form.Max a) = option_map item.Max (typed_tree source a)
aggregate_of source other = None

-- an aggregate of typed operands
abbrev pub aggregate_item : List Column → SqlExpr → Option Item
aggregate_item source tree = aggregate_of source (out-SqlExpr tree)

abbrev pub of_item_kind : Item → Kind → KindedItem
of_item_kind given held = record { item = given; kind = held }

-- an item with its kind beside groups of these kinds, where it has one
abbrev pub kinded_item : List Column → List Kind → Item → Option KindedItem
kinded_item source kinds given = option_map (of_item_kind given) (item_kind (kinds_of source) kinds given)

-- an aggregate with its kind, where its operand has one that it takes
abbrev pub kinded_aggregate : List Column → SqlExpr → Option KindedItem
kinded_aggregate source tree = option_and_then (kinded_item source []) (aggregate_item source tree)

abbrev pub kinded_key : List Column → List Kind → ℕ → Option KindedItem
kinded_key source kinds place = kinded_item source kinds (item.Key place)

-- an aggregate, or else the first group that is the same expression
abbrev pub grouped_item : List Column → List SqlExpr → List Kind → SqlExpr → Option KindedItem
grouped_item source groups kinds tree = if is_aggregate_call tree then kinded_aggregate source tree else option_and_then (kinded_key source kinds) (equal_place groups tree)

abbrev pub item_output : KindedItem → List ℕ → ItemOutput
item_output given name = record { column = column_of given.kind name; item = given.item }

-- an item under its name, where it has one
abbrev pub named_item : List Column → SqlExpr → Option (List ℕ) → KindedItem → Option ItemOutput
named_item source tree own given = option_map (item_output given) (out_name source tree own)

abbrev pub grouped_output : List Column → List SqlExpr → List Kind → Out → Option ItemOutput
grouped_output source groups kinds (out.Star except) = None
grouped_output source groups kinds (out.One tree own) = option_and_then (named_item source tree own) (grouped_item source groups kinds tree)

abbrev pub grouped_outputs : List Column → List SqlExpr → List Kind → List Out → List ItemOutput
grouped_outputs source groups kinds outs = flat_map (λ each. option_to_list (grouped_output source groups kinds each)) outs

-- ---- the items of any query

abbrev pub plain_output : SelectOutput → ItemOutput
plain_output output = record { column = output.column; item = item.Plain output.expr }

-- in a query without groups and aggregates each output as it is
abbrev pub view_outputs : List Column → Select → List ItemOutput
view_outputs source select =
    if is_grouped_select select then grouped_outputs source select.groups (group_kinds (groups_over source select.groups)) select.outs
    else map plain_output (select_outputs source select.outs)

abbrev pub items_given : List ItemOutput → List Item
items_given outputs = map (λ output. output.item) outputs

abbrev pub item_columns : List ItemOutput → List Column
item_columns outputs = map (λ output. output.column) outputs

-- ---- the checks

abbrev pub is_kinded_tree : List Column → SqlExpr → Bool
is_kinded_tree source tree = is_some (kinded_tree source tree)

abbrev pub is_kinded_item : List Column → SqlExpr → Bool
is_kinded_item source tree = if is_aggregate_call tree then is_some (kinded_aggregate source tree) else is_kinded_tree source tree

-- whether an output, where it is an aggregate or another expression, has a kind
abbrev pub has_item_kind : List Column → Out → Bool
has_item_kind source (out.Star except) = true
has_item_kind source (out.One tree own) = is_kinded_item source tree

-- WHERE is a condition, and each group and each output has a kind
abbrev pub items_have_kinds : List Column → Select → Check
items_have_kinds source select =
    if is_filter source select.filter && list_all (is_kinded_tree source) select.groups && list_all (has_item_kind source) select.outs then None else Some TypeMismatch

abbrev pub is_outside_tree : List SqlExpr → SqlExpr → Bool
is_outside_tree groups tree = not (is_aggregate_call tree) && is_none (equal_place groups tree)

-- `*`, or an expression that is no aggregate and no group
abbrev pub is_outside_groups : List SqlExpr → Out → Bool
is_outside_groups groups (out.Star except) = true
is_outside_groups groups (out.One tree own) = is_outside_tree groups tree

-- in a query with groups or an aggregate each output is an aggregate or a group; the fault numbers outputs from 1
abbrev pub outputs_are_grouped : Select → Check
outputs_are_grouped select =
    if is_grouped_select select then option_map (λ place. NotGrouped (place + 1)) (position (is_outside_groups select.groups) select.outs) else None

-- in their order
abbrev pub view_checks : Select → List Column → List Check
view_checks select source =
    names_are_columns source select ∷
    items_have_kinds source select ∷
    outputs_are_grouped select ∷
    outputs_are_named select.outs ∷
    outputs_differ source select.outs ∷ []

abbrev pub view_with : Option Expr → List KindedExpr → List ItemOutput → ViewSelect
view_with filter groups outputs = record { filter = filter; groups = group_exprs groups; items = items_given outputs; columns = item_columns outputs }

-- what the query of a view gives over the columns that it reads, or else the fault of the first check that it breaks
abbrev pub view_select : Select → List Column → Result ViewSelect CheckFault
view_select select source =
    given_unless (first_of (view_checks select source)) (view_with (filter_over source select.filter) (groups_over source select.groups) (view_outputs source select))
