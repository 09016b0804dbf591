-- The table of a plan.
use Rattle.std.specs.Prelude.{◌≡◌, ℕ, List, [], ◌∷◌, map, Option, Some, None, option_map, IsTrue, Ok}
use Rattle.value_core.specs.declared.schema.Column.{Column}
use Rattle.row_expr.specs.declared.expr.Expr.{Expr, fold-Expr}
use Rattle.row_expr.specs.declared.expr.Expr.TheOpen.{Expr-F}
use Rattle.row_expr.specs.declared.expr.Expr.TheOpen as form
use Rattle.row_expr.specs.declared.expr.Expr.TheVariants as expr
use Rattle.plan_core.specs.declared.flow.AppendFlow.{AppendFlow}
use Rattle.plan_core.specs.declared.flow.Origin.{Origin}
use Rattle.plan_core.specs.declared.flow.Origin.TheVariants.{Files, Table}
use Rattle.plan_core.specs.declared.plan.Body.{Body}
use Rattle.plan_core.specs.declared.plan.Body.TheVariants.{Append, Cdc, View}
use Rattle.plan_core.specs.declared.plan.Dataset.{Dataset}
use Rattle.sql_tree.specs.declared.statement.Statement.{Statement}
use Rattle.type_check.specs.Rules.{Checked}
use Rattle.table_update.specs.declared.table.AppendTable.{AppendTable}
use Rattle.table_update.specs.declared.table.Output.{Output}
use Rattle.table_update.specs.Stands.{IsFor}
use Rattle.table_update.specs.Table.{columns_of, is_sound_plan}
use Rattle.pipeline_run.specs.Pipeline.{HasPlan}

-- a column that is read, by its place and kind
abbrev pub expr_of : Output → Expr
expr_of output = expr.Column output.place output.column.kind

-- a table's one flow, of its own name
abbrev pub flow_of : AppendTable → AppendFlow
flow_of table = record { name = table.name; origin = Files table.folder table.shape; filter = None; outputs = map expr_of table.outputs }

-- a table as a dataset
abbrev pub dataset_of : AppendTable → Dataset
dataset_of table = record {
  name = table.name;
  text = table.text;
  body = Append (flow_of table ∷ []);
  columns = columns_of table.outputs;
  expectations = [];
  level = 0;
}

-- the plan of a pipeline that has this table, or none
abbrev pub plan_of : Option AppendTable → List Dataset
plan_of None = []
plan_of (Some table) = dataset_of table ∷ []

-- the table's name
abbrev pub name_of : Option AppendTable → Option (List ℕ)
name_of plan = option_map (λ table. table.name) plan

-- a plan is that of a table that can be kept, or of none
pub record IsUpdatable (plan : List Dataset) : Type 0 where
  pub asked : Option AppendTable
  pub is : plan ≡ plan_of asked
  pub sound : IsTrue (is_sound_plan asked)

-- ---- the way back, from a plan to its table

-- the place that is read, and 0 where an expression is no column
abbrev pub place_at : Expr-F ℕ ℕ → ℕ
place_at (form.Column place kind) = place
place_at other = 0

abbrev pub place_of : Expr → ℕ
place_of = fold-Expr ℕ ℕ place_at (λ arm. 0)

abbrev pub output_of : Expr → Column → Output
output_of e column = record { place = place_of e; column = column }

-- the outputs of expressions, each with its column
abbrev pub outputs_of : List Expr → List Column → List Output
outputs_of exprs [] = []
outputs_of [] columns = []
outputs_of (e ∷ exprs) (column ∷ columns) = output_of e column ∷ outputs_of exprs columns

abbrev pub table_over : Dataset → AppendFlow → Origin → Option AppendTable
table_over dataset flow (Files dir shape) =
    Some (record { name = dataset.name; text = dataset.text; folder = dir; shape = shape; outputs = outputs_of flow.outputs dataset.columns })
table_over dataset flow (Table name) = None

abbrev pub table_by : Dataset → Body → Option AppendTable
table_by dataset (Append []) = None
table_by dataset (Append (flow ∷ more)) = table_over dataset flow flow.origin
table_by dataset (Cdc feed) = None
table_by dataset (View query) = None

-- the table of a plan's first dataset, which takes the lines of files
abbrev pub table_in : List Dataset → Option AppendTable
table_in [] = None
table_in (dataset ∷ more) = table_by dataset dataset.body

-- ---- what is asked for

-- statements ask for this table, or for none
abbrev pub AskFor : List Statement → AppendTable → Type 0
AskFor statements table = (asked : Option AppendTable) → Checked statements (Ok (plan_of asked)) → IsFor asked table

-- and so does a text
abbrev pub AsksFor : List ℕ → AppendTable → Type 0
AsksFor text table = (asked : Option AppendTable) → HasPlan text (plan_of asked) → IsFor asked table
