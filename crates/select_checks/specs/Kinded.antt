-- Written expressions that have a typed one over columns, with its kind.
use Rattle.std.specs.Prelude.{ℕ, Bool, true, ◌&&◌, if◌then◌else◌, List, Option, Some, None, is_some, option_map, option_and_then}
use Rattle.std.specs.Result.{result_ok}
use Rattle.value_core.specs.declared.schema.Column.{Column}
use Rattle.value_core.specs.declared.value.Kind.{Kind}
use Rattle.sql_tree.specs.declared.expr.SqlExpr.{SqlExpr}
use Rattle.row_expr.specs.declared.expr.Expr.{Expr}
use Rattle.expr_typing.specs.Typing.{typing}
use Rattle.plan_core.specs.Sound.{kinds_of, kind_over, is_condition_over, is_boolean}
use Rattle.select_checks.specs.declared.kinded.KindedExpr.{KindedExpr}

-- the typed expression over columns, where there is one
abbrev pub typed_tree : List Column → SqlExpr → Option Expr
typed_tree source tree = result_ok (typing source tree)

abbrev pub of_kind : Expr → Kind → KindedExpr
of_kind made held = record { expr = made; kind = held }

abbrev pub kinded : List Column → Expr → Option KindedExpr
kinded source made = option_map (of_kind made) (kind_over (kinds_of source) made)

-- the typed expression with its kind, where it has one
abbrev pub kinded_tree : List Column → SqlExpr → Option KindedExpr
kinded_tree source tree = option_and_then (kinded source) (typed_tree source tree)

abbrev pub if_condition : List Column → Expr → Option Expr
if_condition source made = if is_condition_over (kinds_of source) (Some made) then Some made else None

-- the typed expression, where it is BOOLEAN or NULL alone
abbrev pub condition_tree : List Column → SqlExpr → Option Expr
condition_tree source tree = option_and_then (if_condition source) (typed_tree source tree)

abbrev pub if_boolean : List Column → Expr → Option Expr
if_boolean source made = if is_boolean (kind_over (kinds_of source) made) then Some made else None

-- the typed expression, where it is BOOLEAN
abbrev pub boolean_tree : List Column → SqlExpr → Option Expr
boolean_tree source tree = option_and_then (if_boolean source) (typed_tree source tree)

-- WHERE over the columns that are read
abbrev pub filter_over : List Column → Option SqlExpr → Option Expr
filter_over source filter = option_and_then (condition_tree source) filter

-- whether WHERE, where it stands, is a condition
abbrev pub is_filter : List Column → Option SqlExpr → Bool
is_filter source None = true
is_filter source (Some tree) = is_some (condition_tree source tree)
