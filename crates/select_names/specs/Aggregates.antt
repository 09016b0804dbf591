-- Where aggregates stand. Databricks SQL reference, SELECT and aggregate functions.
use Rattle.std.specs.Prelude.{Bool, true, false, not, ◌||◌, ◌==◌, List, [], ◌∷◌, length, Option, Some, None, unwrap_or}
use Rattle.std.specs.List.{list_any}
use Rattle.sql_tree.specs.declared.expr.SqlArm.{SqlArm, fold-SqlArm}
use Rattle.sql_tree.specs.declared.expr.SqlExpr.{SqlExpr, fold-SqlExpr}
use Rattle.sql_tree.specs.declared.expr.SqlExpr.TheOpen.{SqlExpr-F, SqlArm-F}
use Rattle.sql_tree.specs.declared.expr.SqlExpr.TheOpen as form
use Rattle.sql_tree.specs.declared.expr.SqlExpr.TheViews.{out-SqlExpr}
use Rattle.sql_tree.specs.declared.statement.Out.{Out}
use Rattle.sql_tree.specs.declared.statement.Out.TheVariants as out
use Rattle.sql_tree.specs.declared.statement.Select.{Select}

abbrev pub any_part : List Bool → Bool
any_part [] = false
any_part (a ∷ more) = a || any_part more

abbrev pub aggregate_at : SqlExpr-F Bool Bool → Bool
aggregate_at (form.Neg a) = a
aggregate_at (form.Not a) = a
aggregate_at (form.Binary of a b) = a || b
aggregate_at (form.IsNull a negated) = a
aggregate_at (form.InList a list negated) = a || any_part list
aggregate_at (form.Between a low high negated) = a || (low || high)
aggregate_at (form.Case arms other) = any_part arms || unwrap_or other false
aggregate_at (form.Cast a to trying) = a
aggregate_at (form.Coalesce list) = any_part list
aggregate_at form.CountAll = true
aggregate_at (form.Count a) = true
aggregate_at (form.Sum a) = true
aggregate_at (form.Min a) = true
aggregate_at (form.Max a) = true
aggregate_at other = false

abbrev pub arm_aggregate_at : SqlArm-F Bool Bool → Bool
arm_aggregate_at arm = arm.when || arm.then

-- whether an expression is an aggregate or has one in it
abbrev pub has_aggregate : SqlExpr → Bool
has_aggregate = fold-SqlExpr Bool Bool aggregate_at arm_aggregate_at

abbrev pub arm_has_aggregate : SqlArm → Bool
arm_has_aggregate = fold-SqlArm Bool Bool aggregate_at arm_aggregate_at

abbrev pub is_call_at : SqlExpr-F SqlExpr SqlArm → Bool
is_call_at form.CountAll = true
is_call_at (form.Count a) = true
is_call_at (form.Sum a) = true
is_call_at (form.Min a) = true
is_call_at (form.Max a) = true
is_call_at other = false

-- whether an expression is itself an aggregate
abbrev pub is_aggregate_call : SqlExpr → Bool
is_aggregate_call tree = is_call_at (out-SqlExpr tree)

abbrev pub out_has_aggregate : Out → Bool
out_has_aggregate (out.Star except) = false
out_has_aggregate (out.One tree own) = has_aggregate tree

abbrev pub filter_has_aggregate : Option SqlExpr → Bool
filter_has_aggregate None = false
filter_has_aggregate (Some tree) = has_aggregate tree

-- whether a select has GROUP BY or an aggregate anywhere
abbrev pub is_grouped_select : Select → Bool
is_grouped_select select = not (length select.groups == 0) || (list_any out_has_aggregate select.outs || filter_has_aggregate select.filter)
