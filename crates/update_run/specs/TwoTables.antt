-- A worked plan of two tables: `u` streams from `t`, which is declared behind it and reads the folder `in`.
use Rattle.std.specs.Prelude.{ℕ, List, [], ◌∷◌, None, false}
use Rattle.value_core.specs.declared.cursor.Format.TheVariants.{Json}
use Rattle.value_core.specs.declared.schema.Column.{Column}
use Rattle.value_core.specs.declared.shape.Shape.{Shape}
use Rattle.value_core.specs.declared.value.Kind.TheVariants as kind
use Rattle.row_expr.specs.declared.expr.Expr.{Expr}
use Rattle.row_expr.specs.declared.expr.Expr.TheVariants as expr
use Rattle.plan_core.specs.declared.flow.AppendFlow.{AppendFlow}
use Rattle.plan_core.specs.declared.flow.Origin.{Origin}
use Rattle.plan_core.specs.declared.flow.Origin.TheVariants as origin
use Rattle.plan_core.specs.declared.plan.Body.TheVariants as body
use Rattle.plan_core.specs.declared.plan.Dataset.{Dataset as Part}

-- `a BIGINT`
abbrev pub column_a : Column
column_a = record { name = 97 ∷ []; kind = kind.Big }

abbrev pub columns_a : List Column
columns_a = column_a ∷ []

-- JSON files of it
abbrev pub shape_a : Shape
shape_a = record { format = Json; columns = columns_a; rescued = false; header = false; sep = 44 }

abbrev pub flow_with : List ℕ → Origin → List Expr → AppendFlow
flow_with name from outputs = record { name = name; origin = from; filter = None; outputs = outputs }

-- `SELECT a FROM STREAM ..`
abbrev pub flow_over : List ℕ → Origin → AppendFlow
flow_over name from = flow_with name from (expr.Column 0 kind.Big ∷ [])

abbrev pub table_with : List ℕ → List ℕ → ℕ → List Column → List AppendFlow → Part
table_with name text level columns flows = record { name = name; text = text; body = body.Append flows; columns = columns; expectations = []; level = level }

abbrev pub table_over : List ℕ → ℕ → Origin → Part
table_over name level from = table_with name (120 ∷ []) level columns_a (flow_over name from ∷ [])

abbrev pub table_u : Part
table_u = table_over (117 ∷ []) 1 (origin.Table (116 ∷ []))

abbrev pub table_t : Part
table_t = table_over (116 ∷ []) 0 (origin.Files (105 ∷ 110 ∷ []) shape_a)

abbrev pub two_tables : List Part
two_tables = table_u ∷ table_t ∷ []
