-- When two expressions are the same: names but for the case of ASCII letters, and else form by form.
--
-- An expression has a code in numbers: the codes of its operands in order, then its own parts, and then the number of its form. A
-- text and a list have their length behind them, so that expressions that differ otherwise have different codes.
use Rattle.std.specs.Prelude.{◌≡◌, ℕ, ℤ, pos, negsuc, suc, Bool, if◌then◌else◌, List, [], ◌∷◌, ◌++◌, length, position, Option, Some, None, Result, bytes_eq, IfOk}
use Rattle.std.specs.Map.{lookup}
use Rattle.std.specs.declared.alloc.AllocError.{AllocError}
use Rattle.value_core.specs.NameFold.{folded}
use Rattle.sql_tree.specs.declared.expr.SqlType.{SqlType}
use Rattle.sql_tree.specs.declared.expr.SqlType.TheVariants as type
use Rattle.sql_tree.specs.declared.expr.SqlOp.{SqlOp}
use Rattle.sql_tree.specs.declared.expr.SqlOp.TheVariants as op
use Rattle.sql_tree.specs.declared.expr.SqlArm.{SqlArm, fold-SqlArm}
use Rattle.sql_tree.specs.declared.expr.SqlExpr.{SqlExpr, fold-SqlExpr}
use Rattle.sql_tree.specs.declared.expr.SqlExpr.TheOpen.{SqlExpr-F, SqlArm-F}
use Rattle.sql_tree.specs.declared.expr.SqlExpr.TheOpen as form

abbrev pub Code : Type 0
Code = List ℕ

-- one more number behind a code
abbrev pub put : Code → ℕ → Code
put before n = before ++ n ∷ []

abbrev pub bit : Bool → ℕ
bit b = if b then 1 else 0

abbrev pub put_number : ℤ → Code → Code
put_number (pos n) before = put (put before n) 0
put_number (negsuc n) before = put (put before (suc n)) 1

-- a text and its length
abbrev pub put_text : List ℕ → Code → Code
put_text text before = put (before ++ text) (length text)

abbrev pub operator_number : SqlOp → ℕ
operator_number op.Or = 0
operator_number op.And = 1
operator_number op.Eq = 2
operator_number op.Ne = 3
operator_number op.Lt = 4
operator_number op.Le = 5
operator_number op.Gt = 6
operator_number op.Ge = 7
operator_number op.Add = 8
operator_number op.Sub = 9
operator_number op.Concat = 10
operator_number op.Mul = 11
operator_number op.Div = 12
operator_number op.Rem = 13

abbrev pub type_number : SqlType → ℕ
type_number type.Bool = 0
type_number type.Int = 1
type_number type.Big = 2
type_number type.Str = 3

-- all of a list in order
abbrev pub put_all : List (Code → Code) → Code → Code
put_all [] before = before
put_all (first ∷ more) before = put_all more (first before)

-- a list and its length
abbrev pub put_list : List (Code → Code) → Code → Code
put_list list before = put (put_all list before) (length list)

abbrev pub put_option : Option (Code → Code) → Code → Code
put_option None before = put before 0
put_option (Some code) before = put (code before) 1

abbrev pub code_at : SqlExpr-F (Code → Code) (Code → Code) → Code → Code
code_at (form.Number n) before = put (put_number n before) 0
code_at (form.Str s) before = put (put_text s before) 1
code_at (form.Bool b) before = put (put before (bit b)) 2
code_at form.Null before = put before 3
code_at (form.Name name) before = put (put_text (folded name) before) 4
code_at (form.Neg a) before = put (a before) 5
code_at (form.Not a) before = put (a before) 6
code_at (form.Binary of a b) before = put (put (b (a before)) (operator_number of)) 7
code_at (form.IsNull a negated) before = put (put (a before) (bit negated)) 8
code_at (form.InList a list negated) before = put (put (put_list list (a before)) (bit negated)) 9
code_at (form.Between a low high negated) before = put (put (high (low (a before))) (bit negated)) 10
code_at (form.Case arms other) before = put (put_option other (put_list arms before)) 11
code_at (form.Cast a to trying) before = put (put (put (a before) (type_number to)) (bit trying)) 12
code_at (form.Coalesce list) before = put (put_list list before) 13
code_at form.CountAll before = put before 14
code_at (form.Count a) before = put (a before) 15
code_at (form.Sum a) before = put (a before) 16
code_at (form.Min a) before = put (a before) 17
code_at (form.Max a) before = put (a before) 18

abbrev pub arm_code_at : SqlArm-F (Code → Code) (Code → Code) → Code → Code
arm_code_at arm before = arm.then (arm.when before)

-- the code of an expression behind others
abbrev pub code_behind : SqlExpr → Code → Code
code_behind = fold-SqlExpr (Code → Code) (Code → Code) code_at arm_code_at

abbrev pub arm_code_behind : SqlArm → Code → Code
arm_code_behind = fold-SqlArm (Code → Code) (Code → Code) code_at arm_code_at

-- the code of an expression
unfoldable pub tree_code : SqlExpr → Code
tree_code tree = code_behind tree []

-- whether two expressions are the same but for the case of ASCII letters in names
abbrev pub same_tree : SqlExpr → SqlExpr → Bool
same_tree a b = bytes_eq (tree_code a) (tree_code b)

-- the place of the first of some expressions that is the same as an expression
abbrev pub equal_place : List SqlExpr → SqlExpr → Option ℕ
equal_place trees tree = position (same_tree tree) trees

-- a call gives that, or finds no memory
abbrev pub Spells : Result Code AllocError → Code → Type 0
Spells answer code = IfOk answer (λ found. found ≡ code)

-- what is under a key that spells a code
abbrev pub under_code : {K : Type 0} → (K → Code) → Code → List (K × ℕ) → Option ℕ
under_code code_of code entries = lookup (λ key. bytes_eq code (code_of key)) entries

abbrev pub place_if_same : Code → Code → ℕ → Option ℕ
place_if_same code other place = if bytes_eq code other then Some place else None

-- under each code stands the place of the first expression that has it
abbrev pub ArePlaced : {K : Type 0} → (K → Code) → List (K × ℕ) → List SqlExpr → Type 0
ArePlaced code_of entries trees = (tree : SqlExpr) → under_code code_of (tree_code tree) entries ≡ equal_place trees tree
