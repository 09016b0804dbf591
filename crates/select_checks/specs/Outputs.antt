-- What the outputs of a select without groups give. Databricks SQL reference, SELECT.
use Rattle.std.specs.Prelude.{ℕ, ◌+◌, Bool, true, if◌then◌else◌, List, [], ◌∷◌, map, flat_map, Option, is_some, option_map, option_and_then, option_to_list}
use Rattle.value_core.specs.declared.schema.Column.{Column}
use Rattle.value_core.specs.declared.value.Kind.{Kind}
use Rattle.sql_tree.specs.declared.expr.SqlExpr.{SqlExpr}
use Rattle.sql_tree.specs.declared.statement.Out.{Out}
use Rattle.sql_tree.specs.declared.statement.Out.TheVariants as out
use Rattle.row_expr.specs.declared.expr.Expr.{Expr}
use Rattle.row_expr.specs.declared.expr.Expr.TheVariants as expr
use Rattle.select_names.specs.SelectNames.{is_left, out_name}
use Rattle.select_checks.specs.declared.outputs.SelectOutput.{SelectOutput}
use Rattle.select_checks.specs.declared.kinded.KindedExpr.{KindedExpr}
use Rattle.select_checks.specs.Kinded.{kinded_tree}

abbrev pub column_of : Kind → List ℕ → Column
column_of held name = record { name = name; kind = held }

abbrev pub select_output : Column → Expr → SelectOutput
select_output column made = record { column = column; expr = made }

-- the columns from this place on that EXCEPT doesn't name
abbrev pub columns_left : List (List ℕ) → ℕ → List Column → List SelectOutput
columns_left except place [] = []
columns_left except place (first ∷ more) =
    if is_left except first then select_output first (expr.Column place first.kind) ∷ columns_left except (place + 1) more else columns_left except (place + 1) more

abbrev pub named_output : List Column → SqlExpr → Option (List ℕ) → KindedExpr → Option SelectOutput
named_output source tree own made = option_map (λ name. select_output (column_of made.kind name) made.expr) (out_name source tree own)

-- an expression under its name, where it has a kind and a name
abbrev pub one_output : List Column → SqlExpr → Option (List ℕ) → Option SelectOutput
one_output source tree own = option_and_then (named_output source tree own) (kinded_tree source tree)

abbrev pub out_outputs : List Column → Out → List SelectOutput
out_outputs source (out.Star except) = columns_left except 0 source
out_outputs source (out.One tree own) = option_to_list (one_output source tree own)

-- what all outputs give, in order
abbrev pub select_outputs : List Column → List Out → List SelectOutput
select_outputs source outs = flat_map (out_outputs source) outs

abbrev pub exprs_given : List SelectOutput → List Expr
exprs_given outputs = map (λ output. output.expr) outputs

abbrev pub columns_given : List SelectOutput → List Column
columns_given outputs = map (λ output. output.column) outputs

-- whether an output, where it is an expression, has a kind
abbrev pub has_kind : List Column → Out → Bool
has_kind source (out.Star except) = true
has_kind source (out.One tree own) = is_some (kinded_tree source tree)
