-- What is given where no check is broken, and what its conditions are.
use Rattle.std.proofs.Common.{◌≡◌, ℕ, Bool, true, false, List, [], ◌∷◌, ◌++◌, map, Option, Some, None, Ok, Err, refl, sym, ap, subst, ◌∙◌}
use Rattle.std.specs.Prelude.{IsTrue, flat_map, if◌then◌else◌, option_map, option_and_then, option_to_list, ◌&&◌}
use Rattle.std.specs.List.{AllByRecursion, list_all}
use Rattle.value_core.specs.declared.schema.Column.{Column}
use Rattle.value_core.specs.declared.value.Kind.{Kind}
use Rattle.sql_tree.specs.declared.expr.SqlExpr.{SqlExpr}
use Rattle.sql_tree.specs.declared.statement.SqlAction.{SqlAction}
use Rattle.sql_tree.specs.declared.statement.SqlItem.{SqlItem}
use Rattle.sql_tree.specs.declared.statement.SqlItem.TheVariants as item
use Rattle.row_expr.specs.declared.expr.Expr.{Expr}
use Rattle.plan_core.specs.declared.expectation.Expectation.{Expectation}
use Rattle.plan_core.specs.Sound.{kinds_of, kind_over, kinds_over, is_condition_over, is_boolean, all_there, are_sound_expectations}
use Rattle.statement_checks.specs.declared.fault.CheckFault.{CheckFault}
use Rattle.statement_checks.specs.Repeats.{first_of}
use Rattle.select_checks.specs.declared.kinded.KindedExpr.{KindedExpr}
use Rattle.select_checks.specs.Kinded.{typed_tree, of_kind, kinded, kinded_tree, if_condition, condition_tree, filter_over, if_boolean, boolean_tree}
use Rattle.select_checks.specs.Streams.{given_unless}
use Rattle.select_checks.specs.Expecting.{expectation_with, expectation_of, expectation_fault, expectations_given, expectations_over}

pub given_is : {A : Type 0} (fault : Option CheckFault) (made given : A) → given_unless fault made ≡ Ok given → made ≡ given
given_is None made given is = cc is
given_is (Some fault) made given is = absurd (cc is)

-- ---- WHERE

if_is_condition : (source : List Column) (made : Expr) (is : Bool) → is_condition_over (kinds_of source) (Some made) ≡ is → IsTrue (is_condition_over (kinds_of source) (if is then Some made else None))
if_is_condition source made true is = is
if_is_condition source made false is = refl

made_condition : (source : List Column) (made : Option Expr) → IsTrue (is_condition_over (kinds_of source) (option_and_then (if_condition source) made))
made_condition source None = refl
made_condition source (Some made) = if_is_condition source made (is_condition_over (kinds_of source) (Some made)) refl

pub filter_sound : (source : List Column) (filter : Option SqlExpr) → IsTrue (is_condition_over (kinds_of source) (filter_over source filter))
filter_sound source None = refl
filter_sound source (Some tree) = made_condition source (typed_tree source tree)

-- ---- expressions with their kinds

abbrev pub HasKind : List Column → KindedExpr → Type 0
HasKind source made = kind_over (kinds_of source) made.expr ≡ Some made.kind

abbrev pub Where : {A : Type 0} → (A → Type 0) → Option A → Type 0
Where P None = Unit {0}
Where P (Some a) = P a

kinded_kind : (source : List Column) (made : Expr) (held : Option Kind) → kind_over (kinds_of source) made ≡ held → Where (HasKind source) (option_map (of_kind made) held)
kinded_kind source made None is = tt
kinded_kind source made (Some held) is = is

typed_kind : (source : List Column) (made : Option Expr) → Where (HasKind source) (option_and_then (kinded source) made)
typed_kind source None = tt
typed_kind source (Some made) = kinded_kind source made (kind_over (kinds_of source) made) refl

pub tree_kind : (source : List Column) (tree : SqlExpr) → Where (HasKind source) (kinded_tree source tree)
tree_kind source tree = typed_kind source (typed_tree source tree)

-- ---- lists

pub all_append : {A : Type 0} (P : A → Type 0) (front back : List A) → AllByRecursion P front → AllByRecursion P back → AllByRecursion P (front ++ back)
all_append P [] back f g = g
all_append P (a ∷ front) back f g = (f.0, all_append P front back f.1 g)

pub one_all : {A : Type 0} (P : A → Type 0) (found : Option A) → Where P found → AllByRecursion P (option_to_list found)
one_all P None f = tt
one_all P (Some a) f = (f, tt)

pub flat_all : {A B : Type 0} (P : B → Type 0) (make : A → Option B) (list : List A) → ((a : A) → Where P (make a)) → AllByRecursion P (flat_map (λ a. option_to_list (make a)) list)
flat_all P make [] each = tt
flat_all P make (a ∷ list) each = all_append P (option_to_list (make a)) (flat_map (λ b. option_to_list (make b)) list) (one_all P (make a) (each a)) (flat_all P make list each)

-- ---- expectations

abbrev Passes : List Column → Expectation → Type 0
Passes columns expectation = is_boolean (kind_over (kinds_of columns) expectation.test) ≡ true

if_is_boolean : (columns : List Column) (name : List ℕ) (said : SqlAction) (made : Expr) (is : Bool) → is_boolean (kind_over (kinds_of columns) made) ≡ is →
    Where (Passes columns) (option_map (expectation_with name said) (if is then Some made else None))
if_is_boolean columns name said made true is = is
if_is_boolean columns name said made false is = tt

made_boolean : (columns : List Column) (name : List ℕ) (said : SqlAction) (made : Option Expr) → Where (Passes columns) (option_map (expectation_with name said) (option_and_then (if_boolean columns) made))
made_boolean columns name said None = tt
made_boolean columns name said (Some made) = if_is_boolean columns name said made (is_boolean (kind_over (kinds_of columns) made)) refl

item_passes : (columns : List Column) (declared : SqlItem) → Where (Passes columns) (expectation_of columns declared)
item_passes columns (item.Column name type) = tt
item_passes columns (item.Expect name test said) = made_boolean columns name said (typed_tree columns test)

all_pass : (columns : List Column) (list : List Expectation) → AllByRecursion (Passes columns) list → list_all (λ expectation. is_boolean (kind_over (kinds_of columns) expectation.test)) list ≡ true
all_pass columns [] f = refl
all_pass columns (first ∷ more) f = ap (λ passes. passes && list_all (λ (expectation : Expectation). is_boolean (kind_over (kinds_of columns) expectation.test)) more) f.0 ∙ all_pass columns more f.1

pub expectations_sound : (items : List SqlItem) (columns : List Column) (given : List Expectation) → expectations_over items columns ≡ Ok given → IsTrue (are_sound_expectations (kinds_of columns) given)
expectations_sound items columns given is =
    subst (λ (list : List Expectation). IsTrue (are_sound_expectations (kinds_of columns) list)) (given_is (first_of (map (expectation_fault columns) items)) (expectations_given columns items) given is)
    (all_pass columns (expectations_given columns items) (flat_all (Passes columns) (expectation_of columns) items (item_passes columns)))
