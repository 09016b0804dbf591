-- The form of statements that is built today: a streaming table whose AS reads files.
use Rattle.std.specs.Prelude.{ℕ, Bool, true, false, ◌&&◌, if◌then◌else◌, List, map, Option, Some, None, is_none, option_and_then}
use Rattle.std.specs.List.{list_all}
use Rattle.sql_tree.specs.declared.expr.SqlExpr.{SqlExpr, fold-SqlExpr}
use Rattle.sql_tree.specs.declared.expr.SqlExpr.TheOpen.{SqlExpr-F}
use Rattle.sql_tree.specs.declared.expr.SqlExpr.TheOpen as expr
use Rattle.sql_tree.specs.declared.statement.Out.{Out}
use Rattle.sql_tree.specs.declared.statement.Out.TheVariants as out
use Rattle.sql_tree.specs.declared.statement.Select.{Select}
use Rattle.sql_tree.specs.declared.statement.SqlItem.{SqlItem}
use Rattle.sql_tree.specs.declared.statement.SqlItem.TheVariants as item
use Rattle.sql_tree.specs.declared.statement.SqlOption.{SqlOption}
use Rattle.sql_tree.specs.declared.statement.SqlOrigin.{SqlOrigin}
use Rattle.sql_tree.specs.declared.statement.SqlOrigin.TheVariants as origin
use Rattle.sql_tree.specs.declared.statement.Statement.{Statement}
use Rattle.sql_tree.specs.declared.statement.Statement.TheVariants as statement
use Rattle.value_core.specs.declared.schema.Column.{Column}
use Rattle.value_core.specs.declared.value.Kind.{Kind}
use Rattle.expr_typing.specs.Typing.{all, kind_of_type}
use Rattle.plan_core.specs.Sound.{is_empty}

-- what a statement of this form says
pub record Form : Type 0 where
  pub name : List ℕ
  pub declared : List Column
  pub stream : Bool
  pub path : List ℕ
  pub options : List SqlOption
  pub outs : List Out
  pub groups : List SqlExpr

abbrev pub column : List ℕ → Kind → Column
column name held = record { name = name; kind = held }

-- an expectation declares no column
abbrev pub declared_column : SqlItem → Option Column
declared_column (item.Column name type) = Some (column name (kind_of_type type))
declared_column (item.Expect name test action) = None

abbrev pub name_at : SqlExpr-F (Option (List ℕ)) (Option (List ℕ)) → Option (List ℕ)
name_at (expr.Name name) = Some name
name_at other = None

-- the name, where an expression is a name alone
abbrev pub plain_name : SqlExpr → Option (List ℕ)
plain_name = fold-SqlExpr (Option (List ℕ)) (Option (List ℕ)) name_at (λ arm. None)

abbrev pub is_there : {A : Type 0} → Option A → Bool
is_there None = false
is_there (Some a) = true

-- `*` without EXCEPT, or a column with or without a name of its own
abbrev pub is_plain_out : Out → Bool
is_plain_out (out.Star except) = is_empty except
is_plain_out (out.One expr name) = is_there (plain_name expr)

-- no WHERE, and plain outputs
abbrev pub is_plain_select : Select → Bool
is_plain_select select = is_none select.filter && list_all is_plain_out select.outs

abbrev pub parts : List ℕ → List Column → Select → Bool → List ℕ → List SqlOption → Form
parts name declared select stream path options =
    record { name = name; declared = declared; stream = stream; path = path; options = options; outs = select.outs; groups = select.groups }

abbrev pub form_over : List ℕ → List Column → Select → SqlOrigin → Option Form
form_over name declared select (origin.Table stream table) = None
form_over name declared select (origin.Files stream path options) = Some (parts name declared select stream path options)

abbrev pub form_with : List ℕ → List SqlItem → Select → Option Form
form_with name items select =
    if is_plain_select select then option_and_then (λ declared. form_over name declared select select.origin) (all (map declared_column items)) else None

abbrev pub reads_files : SqlOrigin → Bool
reads_files (origin.Table stream table) = false
reads_files (origin.Files stream path options) = true

-- what a statement says, where it is of this form: a streaming table without expectations, with AS over `read_files`
abbrev pub form_of : Statement → Option Form
form_of (statement.Table name items select) = option_and_then (form_with name items) select
form_of (statement.View name items select) = None
form_of (statement.Insert flow target select) = None
form_of (statement.Cdc flow rest) = None
