-- The kind of an expression, and which expressions are well formed.
use Rattle.std.specs.Prelude.{List, [], ◌∷◌, Bool, true, false, ◌&&◌, if◌then◌else◌, Option, Some, None}
use Rattle.value_core.specs.declared.value.Kind.{Kind}
use Rattle.value_core.specs.declared.value.Kind.TheVariants as kind
use Rattle.value_core.specs.declared.value.Value.{Value}
use Rattle.value_core.specs.declared.value.Value.TheVariants.{Null, Bool as Truth, Int, Big, Str}
use Rattle.row_expr.specs.declared.expr.Arithmetic.{Arithmetic}
use Rattle.row_expr.specs.declared.expr.Arithmetic.TheVariants as arithmetic
use Rattle.row_expr.specs.declared.expr.Arm.{Arm, fold-Arm}
use Rattle.row_expr.specs.declared.expr.Expr.{Expr, fold-Expr}
use Rattle.row_expr.specs.declared.expr.Expr.TheOpen.{Expr-F, Arm-F}
use Rattle.row_expr.specs.declared.expr.Expr.TheOpen as form
use Rattle.row_expr.specs.declared.sort.Sort.{Sort}
use Rattle.row_expr.specs.declared.sort.Sort.TheVariants.{Ill, Any, Of}

abbrev pub same_kind : Kind → Kind → Bool
same_kind kind.Bool kind.Bool = true
same_kind kind.Int kind.Int = true
same_kind kind.Big kind.Big = true
same_kind kind.Str kind.Str = true
same_kind a b = false

-- of equal kinds that kind, and of Any and another sort that sort; an INT beside a BIGINT is widened before
abbrev pub join : Sort → Sort → Sort
join Any b = b
join a Any = a
join (Of k) (Of l) = if same_kind k l then Of k else Ill
join a b = Ill

abbrev pub join_from : Sort → List Sort → Sort
join_from joined [] = joined
join_from joined (a ∷ more) = join_from (join joined a) more

abbrev pub join_all : List Sort → Sort
join_all = join_from Any

abbrev pub number : Sort → Sort
number (Of kind.Int) = Of kind.Int
number (Of kind.Big) = Of kind.Big
number a = Ill

-- that sort where the wanted one is a kind
abbrev pub where_of : Sort → Sort → Sort
where_of (Of k) gives = gives
where_of wanted gives = Ill

abbrev pub text : Sort → Sort
text (Of kind.Str) = Of kind.Str
text a = Ill

abbrev pub is_condition : Sort → Bool
is_condition (Of kind.Bool) = true
is_condition Any = true
is_condition a = false

-- BOOLEAN where both are conditions
abbrev pub truth : Sort → Sort → Sort
truth a b = if is_condition a && is_condition b then Of kind.Bool else Ill

-- that sort where the operand is well formed
abbrev pub where_formed : Sort → Sort → Sort
where_formed Ill gives = Ill
where_formed operand gives = gives

abbrev pub widened : Sort → Sort
widened (Of kind.Int) = Of kind.Big
widened a = Ill

abbrev pub sort_of_value : Value → Sort
sort_of_value Null = Any
sort_of_value (Truth b) = Of kind.Bool
sort_of_value (Int n) = Of kind.Int
sort_of_value (Big n) = Of kind.Big
sort_of_value (Str s) = Of kind.Str

-- a quotient is a BIGINT, and the rest has the operands' kind
abbrev pub calculated : Arithmetic → Sort → Sort
calculated arithmetic.Div operands = where_of (number operands) (Of kind.Big)
calculated op operands = number operands

-- the join of the results of arms, where each condition is one
abbrev pub join_results_from : Sort → List (Sort × Sort) → Sort
join_results_from joined [] = joined
join_results_from joined (arm ∷ more) = if is_condition arm.0 then join_results_from (join joined arm.1) more else Ill

abbrev pub join_results : List (Sort × Sort) → Sort
join_results = join_results_from Any

abbrev pub sort_at : Expr-F Sort (Sort × Sort) → Sort
sort_at (form.Literal value) = sort_of_value value
sort_at (form.Column at of) = Of of
sort_at (form.Widen a) = widened a
sort_at (form.Negate a) = number a
sort_at (form.Arithmetic op a b) = calculated op (join a b)
sort_at (form.Concat a b) = text (join a b)
sort_at (form.Compare op a b) = where_of (join a b) (Of kind.Bool)
sort_at (form.And a b) = truth a b
sort_at (form.Or a b) = truth a b
sort_at (form.Not a) = truth a Any
sort_at (form.IsNull a) = where_formed a (Of kind.Bool)
sort_at (form.InList a elements) = where_of (join a (join_all elements)) (Of kind.Bool)
sort_at (form.Between a low high) = where_of (join a (join low high)) (Of kind.Bool)
sort_at (form.Case arms other) = let results = join (join_results arms) other in where_of results results
sort_at (form.Cast a to) = where_formed a (Of to)
sort_at (form.TryCast a to) = where_formed a (Of to)
sort_at (form.Coalesce operands) = let results = join_all operands in where_of results results

abbrev pub arm_at : Arm-F Sort (Sort × Sort) → Sort × Sort
arm_at arm = (arm.when, arm.gives)

-- what is known of the kind of an expression
abbrev pub sort_of : Expr → Sort
sort_of = fold-Expr Sort (Sort × Sort) sort_at arm_at

abbrev pub arm_sort : Arm → Sort × Sort
arm_sort = fold-Arm Sort (Sort × Sort) sort_at arm_at

abbrev pub kind_in : Sort → Option Kind
kind_in (Of k) = Some k
kind_in sort = None

abbrev pub is_formed : Sort → Bool
is_formed Ill = false
is_formed sort = true
