-- The typed expression of an expression as it was written.
use Rattle.std.specs.Prelude.{◌≡◌, ⊤, List, [], ◌∷◌, ◌++◌, ℕ, ℤ, Bool, if◌then◌else◌, map, position, slice_get, Option, Some, None, unwrap_or, option_map, option_and_then, Result, Ok, Err, IfOk}
use Rattle.std.specs.declared.alloc.AllocError.{AllocError}
use Rattle.std.specs.List.{list_any}
use Rattle.std.specs.Option.{option_or}
use Rattle.value_core.specs.declared.schema.Column.{Column}
use Rattle.value_core.specs.declared.value.Kind.{Kind}
use Rattle.value_core.specs.declared.value.Kind.TheVariants as kind
use Rattle.value_core.specs.declared.value.Value.{Value}
use Rattle.value_core.specs.declared.value.Value.TheVariants.{Null, Bool as Truth, Int, Big, Str}
use Rattle.value_core.specs.Fits.{is_int}
use Rattle.value_core.specs.NameFold.{same_name}
use Rattle.sql_tree.specs.declared.expr.SqlType.{SqlType}
use Rattle.sql_tree.specs.declared.expr.SqlType.TheVariants as type
use Rattle.sql_tree.specs.declared.expr.SqlOp.{SqlOp}
use Rattle.sql_tree.specs.declared.expr.SqlOp.TheVariants as op
use Rattle.sql_tree.specs.declared.expr.SqlArm.{SqlArm, fold-SqlArm}
use Rattle.sql_tree.specs.declared.expr.SqlExpr.{SqlExpr, fold-SqlExpr}
use Rattle.sql_tree.specs.declared.expr.SqlExpr.TheOpen.{SqlExpr-F, SqlArm-F}
use Rattle.sql_tree.specs.declared.expr.SqlExpr.TheOpen as form
use Rattle.row_expr.specs.declared.expr.Arithmetic.{Arithmetic}
use Rattle.row_expr.specs.declared.expr.Arithmetic.TheVariants as arithmetic
use Rattle.row_expr.specs.declared.expr.Comparison.{Comparison}
use Rattle.row_expr.specs.declared.expr.Comparison.TheVariants as comparison
use Rattle.row_expr.specs.declared.expr.Arm.{Arm}
use Rattle.row_expr.specs.declared.expr.Expr.{Expr}
use Rattle.row_expr.specs.declared.expr.Expr.TheVariants as e
use Rattle.row_expr.specs.declared.sort.Sort.{Sort}
use Rattle.row_expr.specs.declared.sort.Sort.TheVariants.{Ill, Any, Of}
use Rattle.expr_typing.specs.declared.operand.Operand.{Operand}
use Rattle.expr_typing.specs.declared.operand.Branch.{Branch}
use Rattle.expr_typing.specs.declared.operand.Limits.{Limits}
use Rattle.expr_typing.specs.declared.typing.TypeEnd.{TypeEnd}
use Rattle.expr_typing.specs.declared.typing.TypeEnd.TheVariants as answer
use Rattle.row_expr.specs.Kinds.{join, number, text, truth, where_of, where_formed, is_condition, calculated, sort_of_value}

-- ---- names

abbrev pub has_column : List Column → List ℕ → Bool
has_column columns name = list_any (λ column. same_name column.name name) columns

abbrev pub if_unknown : List Column → List ℕ → Option (List ℕ)
if_unknown columns name = if has_column columns name then None else Some name

abbrev pub first_of : {A : Type 0} → List (Option A) → Option A
first_of [] = None
first_of (found ∷ more) = option_or found (first_of more)

abbrev pub unknown_at : List Column → SqlExpr-F (Option (List ℕ)) (Option (List ℕ)) → Option (List ℕ)
unknown_at columns (form.Name name) = if_unknown columns name
unknown_at columns (form.Neg a) = a
unknown_at columns (form.Not a) = a
unknown_at columns (form.Binary of a b) = option_or a b
unknown_at columns (form.IsNull a negated) = a
unknown_at columns (form.InList a list negated) = option_or a (first_of list)
unknown_at columns (form.Between a low high negated) = option_or a (option_or low high)
unknown_at columns (form.Case arms other) = option_or (first_of arms) (unwrap_or other None)
unknown_at columns (form.Cast a to trying) = a
unknown_at columns (form.Coalesce list) = first_of list
unknown_at columns (form.Count a) = a
unknown_at columns (form.Sum a) = a
unknown_at columns (form.Min a) = a
unknown_at columns (form.Max a) = a
unknown_at columns other = None

abbrev pub unknown_in_arm : SqlArm-F (Option (List ℕ)) (Option (List ℕ)) → Option (List ℕ)
unknown_in_arm arm = option_or arm.when arm.then

-- the first name, from left to right, that no column has
abbrev pub first_unknown : List Column → SqlExpr → Option (List ℕ)
first_unknown columns = fold-SqlExpr (Option (List ℕ)) (Option (List ℕ)) (unknown_at columns) unknown_in_arm

abbrev pub arm_unknown : List Column → SqlArm → Option (List ℕ)
arm_unknown columns = fold-SqlArm (Option (List ℕ)) (Option (List ℕ)) (unknown_at columns) unknown_in_arm

-- ---- sorts

-- the join of two sorts: an INT beside a BIGINT is widened
abbrev pub wide_join : Sort → Sort → Sort
wide_join (Of kind.Int) (Of kind.Big) = Of kind.Big
wide_join (Of kind.Big) (Of kind.Int) = Of kind.Big
wide_join a b = join a b

abbrev pub wide_join_from : Sort → List Sort → Sort
wide_join_from joined [] = joined
wide_join_from joined (a ∷ more) = wide_join_from (wide_join joined a) more

abbrev pub wide_join_all : List Operand → Sort
wide_join_all operands = wide_join_from Any (map (λ a. a.sort) operands)

abbrev pub kind_of_type : SqlType → Kind
kind_of_type type.Bool = kind.Bool
kind_of_type type.Int = kind.Int
kind_of_type type.Big = kind.Big
kind_of_type type.Str = kind.Str

-- ---- what an operator makes of its operands, where their kinds meet

-- an expression of that sort, unless there is none
abbrev pub formed : Sort → Expr → Option Operand
formed Ill made = None
formed sort made = Some (record { expr = made; sort = sort })

abbrev pub widen_if : Sort → Sort → Expr → Expr
widen_if (Of kind.Big) (Of kind.Int) a = e.Widen a
widen_if joined sort a = a

-- an operand beside others of this join: an INT is widened to a BIGINT
abbrev pub widened_to : Sort → Operand → Expr
widened_to joined a = widen_if joined a.sort a.expr

abbrev pub literal : Value → Option Operand
literal value = formed (sort_of_value value) (e.Literal value)

-- an INT where the number fits
abbrev pub number_literal : ℤ → Option Operand
number_literal n = literal (if is_int n then Int n else Big n)

-- the first column of that name, with its place
abbrev pub column : List Column → List ℕ → Option Operand
column columns name = option_and_then (λ at. option_map (λ found. record { expr = e.Column at found.kind; sort = Of found.kind }) (slice_get columns at))
    (position (λ found. same_name found.name name) columns)

abbrev pub negated : Operand → Option Operand
negated a = formed (number a.sort) (e.Negate a.expr)

abbrev pub opposite : Operand → Option Operand
opposite a = formed (truth a.sort Any) (e.Not a.expr)

abbrev pub connected : (Expr → Expr → Expr) → Operand → Operand → Option Operand
connected make a b = formed (truth a.sort b.sort) (make a.expr b.expr)

abbrev pub concatenated : Operand → Operand → Option Operand
concatenated a b = formed (text (wide_join a.sort b.sort)) (e.Concat a.expr b.expr)

abbrev pub compared : Comparison → Operand → Operand → Option Operand
compared by a b = let joined = wide_join a.sort b.sort in
    formed (where_of joined (Of kind.Bool)) (e.Compare by (widened_to joined a) (widened_to joined b))

abbrev pub computed : Arithmetic → Operand → Operand → Option Operand
computed by a b = let joined = wide_join a.sort b.sort in
    formed (calculated by joined) (e.Arithmetic by (widened_to joined a) (widened_to joined b))

abbrev pub operation : SqlOp → Operand → Operand → Option Operand
operation op.Or a b = connected e.Or a b
operation op.And a b = connected e.And a b
operation op.Eq a b = compared comparison.Eq a b
operation op.Ne a b = compared comparison.Ne a b
operation op.Lt a b = compared comparison.Lt a b
operation op.Le a b = compared comparison.Le a b
operation op.Gt a b = compared comparison.Gt a b
operation op.Ge a b = compared comparison.Ge a b
operation op.Add a b = computed arithmetic.Add a b
operation op.Sub a b = computed arithmetic.Sub a b
operation op.Concat a b = concatenated a b
operation op.Mul a b = computed arithmetic.Mul a b
operation op.Div a b = computed arithmetic.Div a b
operation op.Rem a b = computed arithmetic.Rem a b

-- `NOT IN` and the like are the NOT of `IN`
abbrev pub not_if : Bool → Expr → Expr
not_if negated made = if negated then e.Not made else made

abbrev pub null_test : Bool → Operand → Option Operand
null_test negated a = formed (where_formed a.sort (Of kind.Bool)) (not_if negated (e.IsNull a.expr))

abbrev pub among : Bool → Operand → List Operand → Option Operand
among negated a elements = let joined = wide_join a.sort (wide_join_all elements) in
    formed (where_of joined (Of kind.Bool)) (not_if negated (e.InList (widened_to joined a) (map (widened_to joined) elements)))

abbrev pub limits : Operand → Operand → Option Limits
limits low high = Some (record { low = low; high = high })

abbrev pub within : Bool → Operand → Limits → Option Operand
within negated a between = let joined = wide_join a.sort (wide_join between.low.sort between.high.sort) in
    formed (where_of joined (Of kind.Bool)) (not_if negated (e.Between (widened_to joined a) (widened_to joined between.low) (widened_to joined between.high)))

-- a WHEN whose condition is one
abbrev pub guarded : Operand → Operand → Option Branch
guarded condition gives = if is_condition condition.sort then Some (record { when = condition.expr; gives = gives }) else None

abbrev pub widened_arm : Sort → Branch → Arm
widened_arm joined made = record { when = made.when; gives = widened_to joined made.gives }

abbrev pub choice : List Branch → Operand → Option Operand
choice branches other = let joined = wide_join (wide_join_all (map (λ made. made.gives) branches)) other.sort in
    formed (where_of joined joined) (e.Case (map (widened_arm joined) branches) (widened_to joined other))

abbrev pub first_known : List Operand → Option Operand
first_known operands = let joined = wide_join_all operands in
    formed (where_of joined joined) (e.Coalesce (map (widened_to joined) operands))

abbrev pub converted : Bool → Kind → Expr → Expr
converted trying to from = if trying then e.TryCast from to else e.Cast from to

abbrev pub cast : SqlType → Bool → Operand → Option Operand
cast to trying a = let k = kind_of_type to in formed (where_formed a.sort (Of k)) (converted trying k a.expr)

-- ---- by cases on the form; an aggregate is no expression of a row

abbrev pub two : {A B C : Type 0} → (A → B → Option C) → Option A → Option B → Option C
two make (Some a) (Some b) = make a b
two make a b = None

-- a list behind those so far where each is there, and none where one is not
abbrev pub all_from : {A : Type 0} → List A → List (Option A) → Option (List A)
all_from so_far [] = Some so_far
all_from so_far (Some a ∷ more) = all_from (so_far ++ a ∷ []) more
all_from so_far (None ∷ more) = None

abbrev pub all : {A : Type 0} → List (Option A) → Option (List A)
all = all_from []

abbrev pub operand_at : List Column → SqlExpr-F (Option Operand) (Option Branch) → Option Operand
operand_at columns (form.Number n) = number_literal n
operand_at columns (form.Str s) = literal (Str s)
operand_at columns (form.Bool b) = literal (Truth b)
operand_at columns form.Null = literal Null
operand_at columns (form.Name name) = column columns name
operand_at columns (form.Neg a) = option_and_then negated a
operand_at columns (form.Not a) = option_and_then opposite a
operand_at columns (form.Binary of a b) = two (operation of) a b
operand_at columns (form.IsNull a negated) = option_and_then (null_test negated) a
operand_at columns (form.InList a list negated) = two (among negated) a (all list)
operand_at columns (form.Between a low high negated) = two (within negated) a (two limits low high)
operand_at columns (form.Case arms other) = two choice (all arms) (unwrap_or other (literal Null))
operand_at columns (form.Cast a to trying) = option_and_then (cast to trying) a
operand_at columns (form.Coalesce list) = option_and_then first_known (all list)
operand_at columns aggregate = None

abbrev pub branch_at : SqlArm-F (Option Operand) (Option Branch) → Option Branch
branch_at arm = two guarded arm.when arm.then

-- the typed expression with its sort, where names are known and kinds meet
abbrev pub operand_of : List Column → SqlExpr → Option Operand
operand_of columns = fold-SqlExpr (Option Operand) (Option Branch) (operand_at columns) branch_at

abbrev pub branch_of : List Column → SqlArm → Option Branch
branch_of columns = fold-SqlArm (Option Operand) (Option Branch) (operand_at columns) branch_at

-- why an expression has no typed one: a name that no column has, or kinds that don't meet
pub data Mistyped : Type 0 where
  UnknownName : List ℕ → Mistyped
  Mismatch : Mistyped

abbrev pub told : Option (List ℕ) → Option Operand → Result Expr Mistyped
told (Some name) found = Err (UnknownName name)
told None (Some found) = Ok found.expr
told None None = Err Mismatch

-- the typed expression; an unknown name anywhere is told before kinds that don't meet
abbrev pub typing : List Column → SqlExpr → Result Expr Mistyped
typing columns tree = told (first_unknown columns tree) (operand_of columns tree)

-- a call answers with the typing, or for want of memory with none
abbrev pub Answers : Result Expr Mistyped → Result Expr TypeEnd → Type 0
Answers found (Ok made) = found ≡ Ok made
Answers found (Err (answer.UnknownName name)) = found ≡ Err (UnknownName name)
Answers found (Err answer.TypeMismatch) = found ≡ Err Mismatch
Answers found (Err answer.Memory) = ⊤

-- a call answers with that, or for want of memory with none
abbrev pub Gives : {A : Type 0} → Result A AllocError → A → Type 0
Gives answer made = IfOk answer (λ found. found ≡ made)
