-- The columns that a dataset declares beside those that it has.
use Rattle.std.specs.Prelude.{ℕ, ◌&&◌, Bool, if◌then◌else◌, List, [], ◌∷◌, flat_map, length, option_map, option_to_list, Option, Some, None}
use Rattle.sql_tree.specs.declared.statement.SqlItem.{SqlItem}
use Rattle.sql_tree.specs.declared.statement.SqlItem.TheVariants as item
use Rattle.value_core.specs.declared.schema.Column.{Column}
use Rattle.value_core.specs.declared.value.Kind.{Kind}
use Rattle.value_core.specs.NameFold.{same_name}
use Rattle.row_expr.specs.Kinds.{same_kind}
use Rattle.expr_typing.specs.Typing.{kind_of_type}
use Rattle.statement_checks.specs.declared.fault.CheckFault.TheVariants.{SchemaDiffers}
use Rattle.statement_checks.specs.Limits.{Check, few}

abbrev pub typed_column : List ℕ → Kind → Column
typed_column name held = record { name = name; kind = held }

-- an expectation declares no column
abbrev pub column_declared : SqlItem → Option Column
column_declared (item.Column name type) = Some (typed_column name (kind_of_type type))
column_declared (item.Expect name test action) = None

-- the declared columns, in order
abbrev pub columns_declared : List SqlItem → List Column
columns_declared items = flat_map (λ each. option_to_list (column_declared each)) items

-- the same name but for the case of ASCII letters, and the same kind
abbrev pub is_equal_column : Column → Column → Bool
is_equal_column a b = same_name a.name b.name && same_kind a.kind b.kind

-- the name of the first column of the table that is not the declared one of its place, or of the first one too many on either side
abbrev pub first_unlike : List Column → List Column → Option (List ℕ)
first_unlike [] [] = None
first_unlike [] (found ∷ table) = Some found.name
first_unlike (wanted ∷ declared) [] = Some wanted.name
first_unlike (wanted ∷ declared) (found ∷ table) = if is_equal_column wanted found then first_unlike declared table else Some found.name

-- the dataset has the declared columns in order, where some are declared
abbrev pub declares_table : List Column → List Column → Check
declares_table [] table = None
declares_table (first ∷ more) table = option_map SchemaDiffers (first_unlike (first ∷ more) table)

-- a dataset has at most 256 columns
abbrev pub few_in_table : List Column → Check
few_in_table table = few 256 (length table)
