-- The kind that each form of a written expression gives over columns.
--
--   + - * %                 the join of the operands, where it is INT or BIGINT
--   div                     BIGINT, where that join is INT or BIGINT
--   unary -                 the operand's, where it is INT or BIGINT
--   ||                      STRING, where the join is STRING
--   comparisons, IN,
--   BETWEEN                 BOOLEAN, where all have a join that isn't any kind's
--   AND, OR, NOT            BOOLEAN, where the operands are BOOLEAN or of any kind
--   IS NULL                 BOOLEAN
--   CASE, coalesce          the join of the branches, where it isn't any kind's and conditions are BOOLEAN or of any kind
--   CAST, TRY_CAST          the named kind
--
-- A literal is an INT where it fits and else a BIGINT, and NULL is of any kind. An INT joins with a BIGINT to a BIGINT. An
-- aggregate is no expression of a row. Databricks SQL reference, data types and operators, under ANSI rules.
use Rattle.std.specs.Prelude.{List, [], ◌∷◌, ℕ, ℤ, Bool, if◌then◌else◌, position, slice_get, Option, Some, None, unwrap_or, option_and_then}
use Rattle.value_core.specs.declared.schema.Column.{Column}
use Rattle.value_core.specs.declared.value.Kind.TheVariants as kind
use Rattle.value_core.specs.Fits.{is_int}
use Rattle.value_core.specs.NameFold.{same_name}
use Rattle.sql_tree.specs.declared.expr.SqlArm.{SqlArm, fold-SqlArm}
use Rattle.sql_tree.specs.declared.expr.SqlExpr.{SqlExpr, fold-SqlExpr}
use Rattle.sql_tree.specs.declared.expr.SqlExpr.TheOpen.{SqlExpr-F, SqlArm-F}
use Rattle.sql_tree.specs.declared.expr.SqlExpr.TheOpen as form
use Rattle.sql_tree.specs.declared.expr.SqlOp.{SqlOp}
use Rattle.sql_tree.specs.declared.expr.SqlOp.TheVariants as op
use Rattle.row_expr.specs.declared.sort.Sort.{Sort}
use Rattle.row_expr.specs.declared.sort.Sort.TheVariants.{Ill, Any, Of}
use Rattle.row_expr.specs.Kinds.{number, text, truth, where_of, where_formed, is_condition}
use Rattle.expr_typing.specs.Typing.{wide_join, wide_join_from, kind_of_type}

abbrev pub number_gives : ℤ → Sort
number_gives n = if is_int n then Of kind.Int else Of kind.Big

abbrev pub found_gives : Option Column → Sort
found_gives None = Ill
found_gives (Some found) = Of found.kind

-- the kind of the first column of that name
abbrev pub name_gives : List Column → List ℕ → Sort
name_gives columns name = found_gives (option_and_then (slice_get columns) (position (λ found. same_name found.name name) columns))

abbrev pub operator_gives : SqlOp → Sort → Sort → Sort
operator_gives op.Or a b = truth a b
operator_gives op.And a b = truth a b
operator_gives op.Eq a b = where_of (wide_join a b) (Of kind.Bool)
operator_gives op.Ne a b = where_of (wide_join a b) (Of kind.Bool)
operator_gives op.Lt a b = where_of (wide_join a b) (Of kind.Bool)
operator_gives op.Le a b = where_of (wide_join a b) (Of kind.Bool)
operator_gives op.Gt a b = where_of (wide_join a b) (Of kind.Bool)
operator_gives op.Ge a b = where_of (wide_join a b) (Of kind.Bool)
operator_gives op.Add a b = number (wide_join a b)
operator_gives op.Sub a b = number (wide_join a b)
operator_gives op.Concat a b = text (wide_join a b)
operator_gives op.Mul a b = number (wide_join a b)
operator_gives op.Div a b = where_of (number (wide_join a b)) (Of kind.Big)
operator_gives op.Rem a b = number (wide_join a b)

-- the join of all branches
abbrev pub branches_give : Sort → Sort
branches_give joined = where_of joined joined

abbrev pub gives_at : List Column → SqlExpr-F Sort Sort → Sort
gives_at columns (form.Number n) = number_gives n
gives_at columns (form.Str s) = Of kind.Str
gives_at columns (form.Bool b) = Of kind.Bool
gives_at columns form.Null = Any
gives_at columns (form.Name name) = name_gives columns name
gives_at columns (form.Neg a) = number a
gives_at columns (form.Not a) = truth a Any
gives_at columns (form.Binary of a b) = operator_gives of a b
gives_at columns (form.IsNull a negated) = where_formed a (Of kind.Bool)
gives_at columns (form.InList a list negated) = where_of (wide_join a (wide_join_from Any list)) (Of kind.Bool)
gives_at columns (form.Between a low high negated) = where_of (wide_join a (wide_join low high)) (Of kind.Bool)
gives_at columns (form.Case arms other) = branches_give (wide_join (wide_join_from Any arms) (unwrap_or other Any))
gives_at columns (form.Cast a to trying) = where_formed a (Of (kind_of_type to))
gives_at columns (form.Coalesce list) = branches_give (wide_join_from Any list)
gives_at columns aggregate = Ill

-- what THEN gives, where WHEN is a condition
abbrev pub arm_gives_at : SqlArm-F Sort Sort → Sort
arm_gives_at arm = if is_condition arm.when then arm.then else Ill

-- the kind that an expression gives, where names are known and kinds meet
abbrev pub gives : List Column → SqlExpr → Sort
gives columns = fold-SqlExpr Sort Sort (gives_at columns) arm_gives_at

abbrev pub arm_gives : List Column → SqlArm → Sort
arm_gives columns = fold-SqlArm Sort Sort (gives_at columns) arm_gives_at
