-- An operand has the sort that its form gives.
use Rattle.std.proofs.Common.{◌≡◌, ℕ, ℤ, List, [], ◌∷◌, ◌++◌, Bool, true, false, if◌then◌else◌, map, Option, Some, None, refl, sym, ap, ◌∙◌, append-nil, append_assoc}
use Rattle.std.specs.Prelude.{position, slice_get, option_map, option_and_then, unwrap_or}
use Rattle.std.proofs.lemmas.List.{map-append}
use Rattle.value_core.specs.declared.schema.Column.{Column}
use Rattle.value_core.specs.declared.value.Kind.TheVariants as kind
use Rattle.value_core.specs.declared.value.Value.TheVariants.{Null, Int, Big}
use Rattle.value_core.specs.Fits.{is_int}
use Rattle.value_core.specs.NameFold.{same_name}
use Rattle.sql_tree.specs.declared.expr.SqlExpr.TheFolds.{map-SqlExpr}
use Rattle.sql_tree.specs.declared.expr.SqlExpr.TheOpen.{SqlExpr-F}
use Rattle.sql_tree.specs.declared.expr.SqlExpr.TheOpen as tree
use Rattle.sql_tree.specs.declared.expr.SqlOp.{SqlOp}
use Rattle.sql_tree.specs.declared.expr.SqlOp.TheVariants as op
use Rattle.row_expr.specs.declared.expr.Expr.{Expr}
use Rattle.row_expr.specs.declared.expr.Expr.TheOpen as form
use Rattle.row_expr.specs.declared.expr.Expr.TheVariants as e
use Rattle.row_expr.specs.declared.sort.Sort.{Sort}
use Rattle.row_expr.specs.declared.sort.Sort.TheVariants.{Ill, Any, Of}
use Rattle.row_expr.specs.Kinds.{join, is_condition, where_of, where_formed, number, text, truth}
use Rattle.expr_typing.specs.declared.operand.Branch.{Branch}
use Rattle.expr_typing.specs.declared.operand.Limits.{Limits}
use Rattle.expr_typing.specs.declared.operand.Operand.{Operand}
use Rattle.expr_typing.specs.Forms.{found_gives, operator_gives, branches_give, gives_at, gives}
use Rattle.expr_typing.specs.Typing.{wide_join, wide_join_from, kind_of_type, formed, literal, operation, null_test, among, limits, within, guarded, choice, first_known, cast, two, all, all_from, operand_at}
use Rattle.expr_typing.specs.Typing as typing
use Rattle.expr_typing.proofs.SortJoins.{join_ill, ill_join, from_ill, truth_ill}

-- ---- the sort of what is there

abbrev pub sort_or_ill : {A : Type 0} → (A → Sort) → Option A → Sort
sort_or_ill sort None = Ill
sort_or_ill sort (Some a) = sort a

abbrev pub own : Operand → Sort
own o = o.sort

abbrev pub result : Branch → Sort
result made = made.gives.sort

abbrev pub sort_in : Option Operand → Sort
sort_in = sort_or_ill own

abbrev pub branch_sort : Option Branch → Sort
branch_sort = sort_or_ill result

sort_formed : (s : Sort) (made : Expr) → sort_in (formed s made) ≡ s
sort_formed Ill made = refl
sort_formed Any made = refl
sort_formed (Of k) made = refl

one_sort : {A : Type 0} (f : A → Sort) (make : A → Option Operand) (of : Sort → Sort) → of Ill ≡ Ill →
    ((a : A) → sort_in (make a) ≡ of (f a)) → (a : Option A) → sort_in (option_and_then make a) ≡ of (sort_or_ill f a)
one_sort f make of ill each None = sym ill
one_sort f make of ill each (Some a) = each a

two_sorts : {A B C : Type 0} (f : A → Sort) (g : B → Sort) (h : C → Sort) (make : A → B → Option C) (of : Sort → Sort → Sort) →
    ((t : Sort) → of Ill t ≡ Ill) → ((s : Sort) → of s Ill ≡ Ill) → ((a : A) (b : B) → sort_or_ill h (make a b) ≡ of (f a) (g b)) →
    (a : Option A) (b : Option B) → sort_or_ill h (two make a b) ≡ of (sort_or_ill f a) (sort_or_ill g b)
two_sorts f g h make of left right each None b = sym (left (sort_or_ill g b))
two_sorts f g h make of left right each (Some a) None = sym (right (f a))
two_sorts f g h make of left right each (Some a) (Some b) = each a b

-- ---- lists

-- where each is there, they have these sorts; where one is not, there is no join
abbrev HasSorts : {A : Type 0} → (A → Sort) → List A → List (Option A) → Option (List A) → Type 0
HasSorts f before list None = (s : Sort) → wide_join_from s (map (sort_or_ill f) list) ≡ Ill
HasSorts f before list (Some found) = map f found ≡ map f before ++ map (sort_or_ill f) list

one_more : {A : Type 0} (f : A → Sort) (before : List A) (a : A) (more : List (Option A)) (found : Option (List A)) →
    HasSorts f (before ++ a ∷ []) more found → HasSorts f before (Some a ∷ more) found
one_more f before a more None none = λ s. none (wide_join s (f a))
one_more f before a more (Some found) is =
    is ∙ (ap (λ front. front ++ map (sort_or_ill f) more) (map-append f before (a ∷ [])) ∙ append_assoc (map f before) (f a ∷ []) (map (sort_or_ill f) more))

all_sorts : {A : Type 0} (f : A → Sort) (before : List A) (list : List (Option A)) → HasSorts f before list (all_from before list)
all_sorts f before [] = sym (append-nil (map f before))
all_sorts f before (None ∷ more) = λ s. ap (λ t. wide_join_from t (map (sort_or_ill f) more)) (join_ill s) ∙ from_ill (map (sort_or_ill f) more)
all_sorts f before (Some a ∷ more) = one_more f before a more (all_from (before ++ a ∷ []) more) (all_sorts f (before ++ a ∷ []) more)

abbrev joined_sorts : {A : Type 0} → (A → Sort) → List A → Sort
joined_sorts f list = wide_join_from Any (map f list)

by_sorts : {A : Type 0} (f : A → Sort) (list : List (Option A)) (found : Option (List A)) → HasSorts f [] list found →
    sort_or_ill (joined_sorts f) found ≡ wide_join_from Any (map (sort_or_ill f) list)
by_sorts f list None none = sym (none Any)
by_sorts f list (Some found) is = ap (wide_join_from Any) is

list_sort : {A : Type 0} (f : A → Sort) (list : List (Option A)) → sort_or_ill (joined_sorts f) (all list) ≡ wide_join_from Any (map (sort_or_ill f) list)
list_sort f list = by_sorts f list (all list) (all_sorts f [] list)

results_sort : (branches : List Branch) → map own (map (λ made. made.gives) branches) ≡ map result branches
results_sort [] = refl
results_sort (made ∷ more) = ap (λ list. result made ∷ list) (results_sort more)

-- ---- each form gives that sort

operator_sort : (of : SqlOp) (a b : Operand) → sort_in (operation of a b) ≡ operator_gives of a.sort b.sort
operator_sort op.Or a b = sort_formed _ _
operator_sort op.And a b = sort_formed _ _
operator_sort op.Eq a b = sort_formed _ _
operator_sort op.Ne a b = sort_formed _ _
operator_sort op.Lt a b = sort_formed _ _
operator_sort op.Le a b = sort_formed _ _
operator_sort op.Gt a b = sort_formed _ _
operator_sort op.Ge a b = sort_formed _ _
operator_sort op.Add a b = sort_formed _ _
operator_sort op.Sub a b = sort_formed _ _
operator_sort op.Concat a b = sort_formed _ _
operator_sort op.Mul a b = sort_formed _ _
operator_sort op.Div a b = sort_formed _ _
operator_sort op.Rem a b = sort_formed _ _

abbrev compares : Sort → Sort
compares joined = where_of joined (Of kind.Bool)

abbrev divides : Sort → Sort
divides joined = where_of (number joined) (Of kind.Big)

operator_left : (of : SqlOp) (t : Sort) → operator_gives of Ill t ≡ Ill
operator_left op.Or t = refl
operator_left op.And t = refl
operator_left op.Eq t = ap compares (ill_join t)
operator_left op.Ne t = ap compares (ill_join t)
operator_left op.Lt t = ap compares (ill_join t)
operator_left op.Le t = ap compares (ill_join t)
operator_left op.Gt t = ap compares (ill_join t)
operator_left op.Ge t = ap compares (ill_join t)
operator_left op.Add t = ap number (ill_join t)
operator_left op.Sub t = ap number (ill_join t)
operator_left op.Concat t = ap text (ill_join t)
operator_left op.Mul t = ap number (ill_join t)
operator_left op.Div t = ap divides (ill_join t)
operator_left op.Rem t = ap number (ill_join t)

operator_right : (of : SqlOp) (s : Sort) → operator_gives of s Ill ≡ Ill
operator_right op.Or s = truth_ill s
operator_right op.And s = truth_ill s
operator_right op.Eq s = ap compares (join_ill s)
operator_right op.Ne s = ap compares (join_ill s)
operator_right op.Lt s = ap compares (join_ill s)
operator_right op.Le s = ap compares (join_ill s)
operator_right op.Gt s = ap compares (join_ill s)
operator_right op.Ge s = ap compares (join_ill s)
operator_right op.Add s = ap number (join_ill s)
operator_right op.Sub s = ap number (join_ill s)
operator_right op.Concat s = ap text (join_ill s)
operator_right op.Mul s = ap number (join_ill s)
operator_right op.Div s = ap divides (join_ill s)
operator_right op.Rem s = ap number (join_ill s)

number_sort : (n : ℤ) (small : Bool) → sort_in (literal (if small then Int n else Big n)) ≡ (if small then Of kind.Int else Of kind.Big)
number_sort n true = refl
number_sort n false = refl

name_sort : (columns : List Column) (at : Option ℕ) →
    sort_in (option_and_then (λ at. option_map (λ found. record { expr = e.Column at found.kind; sort = Of found.kind }) (slice_get columns at)) at)
    ≡ found_gives (option_and_then (slice_get columns) at)
name_sort columns None = refl
name_sort columns (Some at) = by_found (slice_get columns at)
  where
    by_found : (found : Option Column) → sort_in (option_map (λ found. record { expr = e.Column at found.kind; sort = Of found.kind }) found) ≡ found_gives found
    by_found None = refl
    by_found (Some c) = refl

limits_sort : (low high : Option Operand) → sort_or_ill (λ (l : Limits). wide_join l.low.sort l.high.sort) (two limits low high) ≡ wide_join (sort_in low) (sort_in high)
limits_sort low high = two_sorts own own (λ (l : Limits). wide_join l.low.sort l.high.sort) limits wide_join ill_join join_ill (λ a b. refl) low high

pub guarded_sort : (when : Option Operand) (gives : Option Operand) → branch_sort (two guarded when gives) ≡ (if is_condition (sort_in when) then sort_in gives else Ill)
guarded_sort None gives = refl
guarded_sort (Some w) None = by_test (is_condition w.sort)
  where
    by_test : (b : Bool) → Ill ≡ (if b then Ill else Ill)
    by_test true = refl
    by_test false = refl
guarded_sort (Some w) (Some g) = by_test (is_condition w.sort)
  where
    by_test : (b : Bool) → branch_sort (if b then Some (record { when = w.expr; gives = g }) else None) ≡ (if b then g.sort else Ill)
    by_test true = refl
    by_test false = refl

choice_sort : (branches : List Branch) (other : Operand) → sort_in (choice branches other) ≡ branches_give (wide_join (joined_sorts result branches) other.sort)
choice_sort branches other = sort_formed _ _ ∙ ap (λ list. branches_give (wide_join (wide_join_from Any list) other.sort)) (results_sort branches)

case_sort : (arms : List (Option Branch)) (other : Option Operand) → sort_in (two choice (all arms) other) ≡ branches_give (wide_join (wide_join_from Any (map branch_sort arms)) (sort_in other))
case_sort arms other =
    two_sorts (joined_sorts result) own own choice (λ s t. branches_give (wide_join s t)) (λ t. ap branches_give (ill_join t)) (λ s. ap branches_give (join_ill s)) choice_sort (all arms) other
    ∙ ap (λ s. branches_give (wide_join s (sort_in other))) (list_sort result arms)

pub layer_sort : (columns : List Column) (y : SqlExpr-F (Option Operand) (Option Branch)) →
    sort_in (operand_at columns y) ≡ gives_at columns (map-SqlExpr _ _ _ _ sort_in branch_sort y)
layer_sort columns (tree.Number n) = number_sort n (is_int n)
layer_sort columns (tree.Str s) = refl
layer_sort columns (tree.Bool b) = refl
layer_sort columns tree.Null = refl
layer_sort columns (tree.Name name) = name_sort columns (position (λ found. same_name found.name name) columns)
layer_sort columns (tree.Neg a) = one_sort own typing.negated number refl (λ a. sort_formed _ _) a
layer_sort columns (tree.Not a) = one_sort own typing.opposite (λ s. truth s Any) refl (λ a. sort_formed _ _) a
layer_sort columns (tree.Binary of a b) = two_sorts own own own (operation of) (operator_gives of) (operator_left of) (operator_right of) (operator_sort of) a b
layer_sort columns (tree.IsNull a negated) = one_sort own (null_test negated) (λ s. where_formed s (Of kind.Bool)) refl (λ a. sort_formed _ _) a
layer_sort columns (tree.InList a list negated) =
    two_sorts own (joined_sorts own) own (among negated) (λ s t. compares (wide_join s t)) (λ t. ap compares (ill_join t)) (λ s. ap compares (join_ill s)) (λ a b. sort_formed _ _) a (all list)
    ∙ ap (λ t. compares (wide_join (sort_in a) t)) (list_sort own list)
layer_sort columns (tree.Between a low high negated) =
    two_sorts own (λ (l : Limits). wide_join l.low.sort l.high.sort) own (within negated) (λ s t. compares (wide_join s t)) (λ t. ap compares (ill_join t)) (λ s. ap compares (join_ill s)) (λ a b. sort_formed _ _)
    a (two limits low high)
    ∙ ap (λ t. compares (wide_join (sort_in a) t)) (limits_sort low high)
layer_sort columns (tree.Case arms None) = case_sort arms (literal Null)
layer_sort columns (tree.Case arms (Some other)) = case_sort arms other
layer_sort columns (tree.Cast a to trying) = one_sort own (cast to trying) (λ s. where_formed s (Of (kind_of_type to))) refl (λ a. sort_formed _ _) a
layer_sort columns (tree.Coalesce list) =
    one_sort (joined_sorts own) first_known branches_give refl (λ a. sort_formed _ _) (all list) ∙ ap branches_give (list_sort own list)
layer_sort columns tree.CountAll = refl
layer_sort columns (tree.Count a) = refl
layer_sort columns (tree.Sum a) = refl
layer_sort columns (tree.Min a) = refl
layer_sort columns (tree.Max a) = refl
