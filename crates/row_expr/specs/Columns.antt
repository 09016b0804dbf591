-- The columns that an expression reads.
use Rattle.std.specs.Prelude.{List, [], ◌∷◌, ℕ, Bool, true, false, ◌&&◌, slice_get, Option, Some, None}
use Rattle.value_core.specs.declared.value.Kind.{Kind}
use Rattle.row_expr.specs.declared.expr.Arm.{Arm, fold-Arm}
use Rattle.row_expr.specs.declared.expr.Expr.{Expr, fold-Expr}
use Rattle.row_expr.specs.declared.expr.Expr.TheOpen.{Expr-F, Arm-F}
use Rattle.row_expr.specs.declared.expr.Expr.TheOpen as form
use Rattle.row_expr.specs.Kinds.{same_kind}

abbrev pub is_kind : Kind → Option Kind → Bool
is_kind wanted (Some k) = same_kind wanted k
is_kind wanted None = false

abbrev pub all_true : List Bool → Bool
all_true [] = true
all_true (a ∷ more) = a && all_true more

abbrev pub reads_at : List Kind → Expr-F Bool Bool → Bool
reads_at kinds (form.Literal value) = true
reads_at kinds (form.Column at of) = is_kind of (slice_get kinds at)
reads_at kinds (form.Widen a) = a
reads_at kinds (form.Negate a) = a
reads_at kinds (form.Arithmetic op a b) = a && b
reads_at kinds (form.Concat a b) = a && b
reads_at kinds (form.Compare op a b) = a && b
reads_at kinds (form.And a b) = a && b
reads_at kinds (form.Or a b) = a && b
reads_at kinds (form.Not a) = a
reads_at kinds (form.IsNull a) = a
reads_at kinds (form.InList a elements) = a && all_true elements
reads_at kinds (form.Between a low high) = a && (low && high)
reads_at kinds (form.Case arms other) = all_true arms && other
reads_at kinds (form.Cast a to) = a
reads_at kinds (form.TryCast a to) = a
reads_at kinds (form.Coalesce operands) = all_true operands

abbrev pub arm_reads_at : Arm-F Bool Bool → Bool
arm_reads_at arm = arm.when && arm.gives

-- whether each column that an expression reads is one of columns of these kinds, and has the kind that the expression has for it
abbrev pub reads_within : List Kind → Expr → Bool
reads_within kinds = fold-Expr Bool Bool (reads_at kinds) arm_reads_at

abbrev pub arm_reads_within : List Kind → Arm → Bool
arm_reads_within kinds = fold-Arm Bool Bool (reads_at kinds) arm_reads_at
