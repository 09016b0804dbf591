-- The value of an expression is NULL or of the expression's kind.
use Rattle.std.proofs.Common.{◌≡◌, List, [], ◌∷◌, Bool, true, false, ◌&&◌, if◌then◌else◌, map, Option, Some, None, Ok, refl, sym, subst, ◌∙◌}
use Rattle.std.specs.List.{AllByRecursion}
use Rattle.value_core.specs.declared.value.Kind.{Kind}
use Rattle.value_core.specs.declared.value.Kind.TheVariants as kind
use Rattle.value_core.specs.declared.value.Value.{Value}
use Rattle.value_core.specs.declared.value.Value.TheVariants.{Null}
use Rattle.value_core.specs.Fits.{value_fits, row_fits}
use Rattle.value_core.specs.Order.{Row, is_null}
use Rattle.row_expr.specs.declared.expr.Arm.{Arm}
use Rattle.row_expr.specs.declared.expr.Expr.{Expr}
use Rattle.row_expr.specs.declared.expr.Expr.TheFolds.{fold-roll-Expr, fold-roll-Arm, ind-Expr, map-Expr, map-Arm}
use Rattle.row_expr.specs.declared.expr.Expr.TheOpen.{Expr-F, Arm-F}
use Rattle.row_expr.specs.declared.expr.Expr.TheOpen as form
use Rattle.row_expr.specs.declared.expr.Expr.TheViews.{roll-Expr, roll-Arm}
use Rattle.row_expr.specs.declared.sort.Sort.{Sort}
use Rattle.row_expr.specs.declared.sort.Sort.TheVariants.{Ill, Any, Of}
use Rattle.row_expr.specs.Columns.{all_true, reads_at, arm_reads_at, reads_within, arm_reads_within}
use Rattle.row_expr.specs.Eval.{Outcome, Meaning, value_at, val, arm_val, outcomes, arm_outcomes}
use Rattle.row_expr.specs.Eval as spec
use Rattle.row_expr.specs.Kinds.{join, join_from, join_all, join_results, join_results_from, is_condition, kind_in, sort_at, sort_of, arm_sort, where_of, number, text, truth, calculated}
use Rattle.row_expr.specs.Kinds as kinds
use Rattle.row_expr.proofs.Fitting.{Gives, and_parts, left_gives, right_gives, itself_gives, of_gives, formed_gives, truth_gives, literal_fits, column_fits, negate_gives, widen_gives, arithmetic_gives, concat_gives, compare_gives, conjunction_gives, disjunction_gives, opposite_gives, null_test_gives, listed_gives, within_gives, chosen_gives, known_gives, cast_gives, try_cast_gives, ill}

module _ (columns : List Kind) (row : Row) (fits : row_fits columns row ≡ true) where
  -- where the columns that are read fit, the value fits
  abbrev At : Bool → Sort → Outcome → Type 0
  At reads s o = reads ≡ true → Gives s o

  abbrev IsTyped : Expr → Type 0
  IsTyped e = At (reads_within columns e) (sort_of e) (val e row)

  abbrev IsTypedArm : Arm → Type 0
  IsTypedArm arm = At (arm_reads_within columns arm) (arm_sort arm).1 ((arm_val arm).1 row)

  abbrev Each : Type 0
  Each = (e : Expr) × IsTyped e

  abbrev EachArm : Type 0
  EachArm = (arm : Arm) × IsTypedArm arm

  -- ---- lists of operands and of arms

  so_far : (s : Sort) (more : List Sort) (o : Outcome) → Gives s o → Gives (join_from s more) o
  so_far s [] o f = f
  so_far s (t ∷ more) o f = so_far (join s t) more o (left_gives s t o f)

  operands_give : (s : Sort) (list : List Each) → all_true (map (reads_within columns) (map (λ a. a.0) list)) ≡ true →
      AllByRecursion (Gives (join_from s (map sort_of (map (λ a. a.0) list)))) (outcomes row (map val (map (λ a. a.0) list)))
  operands_give s [] reads = tt
  operands_give s (a ∷ list) reads =
      let both = and_parts (reads_within columns a.0) (all_true (map (reads_within columns) (map (λ a. a.0) list))) reads in (
        so_far (join s (sort_of a.0)) (map sort_of (map (λ a. a.0) list)) (val a.0 row) (right_gives s (sort_of a.0) (val a.0 row) (a.1 both.0)),
        operands_give (join s (sort_of a.0)) list both.1,
      )

  abbrev results_if : Bool → Sort → List (Sort × Sort) → Sort
  results_if are s more = if are then join_results_from s more else Ill

  arms_so_far : (s : Sort) (more : List (Sort × Sort)) (o : Outcome) → Gives s o → Gives (join_results_from s more) o
  arms_so_far s [] o f = f
  arms_so_far s (t ∷ more) o f = by_test (is_condition t.0) (arms_so_far (join s t.1) more o (left_gives s t.1 o f))
    where
      by_test : (are : Bool) → Gives (join_results_from (join s t.1) more) o → Gives (results_if are (join s t.1) more) o
      by_test true rest = rest
      by_test false rest = ill o

  abbrev ArmsGive : Sort → List EachArm → Type 0
  ArmsGive s list = AllByRecursion (λ o. Gives s o.1) (arm_outcomes row (map arm_val (map (λ a. a.0) list)))

  any_arms : (list : List EachArm) → ArmsGive Ill list
  any_arms [] = tt
  any_arms (a ∷ list) = (ill ((arm_val a.0).1 row), any_arms list)

  arms_give : (s : Sort) (list : List EachArm) → all_true (map (arm_reads_within columns) (map (λ a. a.0) list)) ≡ true →
      ArmsGive (join_results_from s (map arm_sort (map (λ a. a.0) list))) list
  arms_give s [] reads = tt
  arms_give s (a ∷ list) reads =
      let both = and_parts (arm_reads_within columns a.0) (all_true (map (arm_reads_within columns) (map (λ a. a.0) list))) reads in
      by_test (is_condition (arm_sort a.0).0)
      (arms_so_far (join s (arm_sort a.0).1) (map arm_sort (map (λ a. a.0) list)) ((arm_val a.0).1 row) (right_gives s (arm_sort a.0).1 ((arm_val a.0).1 row) (a.1 both.0)))
      (arms_give (join s (arm_sort a.0).1) list both.1)
    where
      by_test : (are : Bool) → Gives (join_results_from (join s (arm_sort a.0).1) (map arm_sort (map (λ a. a.0) list))) ((arm_val a.0).1 row) →
          ArmsGive (join_results_from (join s (arm_sort a.0).1) (map arm_sort (map (λ a. a.0) list))) list →
          ArmsGive (results_if are (join s (arm_sort a.0).1) (map arm_sort (map (λ a. a.0) list))) (a ∷ list)
      by_test true f g = (f, g)
      by_test false f g = any_arms (a ∷ list)

  with_last : (s t : Sort) (list : List EachArm) → ArmsGive s list → ArmsGive (join s t) list
  with_last s t [] f = tt
  with_last s t (a ∷ list) f = (left_gives s t ((arm_val a.0).1 row) f.0, with_last s t list f.1)

  case_gives : (list : List EachArm) (other : Each) → all_true (map (arm_reads_within columns) (map (λ a. a.0) list)) ≡ true → reads_within columns other.0 ≡ true →
      Gives (join (join_results (map arm_sort (map (λ a. a.0) list))) (sort_of other.0)) (spec.chosen (arm_outcomes row (map arm_val (map (λ a. a.0) list))) (val other.0 row))
  case_gives list other reads last =
      let s = join_results (map arm_sort (map (λ a. a.0) list)) in
      chosen_gives (join s (sort_of other.0)) (arm_outcomes row (map arm_val (map (λ a. a.0) list))) (val other.0 row)
      (with_last s (sort_of other.0) list (arms_give Any list reads)) (right_gives s (sort_of other.0) (val other.0 row) (other.1 last))

  -- ---- each form

  abbrev inside : Expr-F Each EachArm → Expr-F Expr Arm
  inside = map-Expr _ _ _ _ (λ a. a.0) (λ a. a.0)

  abbrev inside_arm : Arm-F Each EachArm → Arm-F Expr Arm
  inside_arm = map-Arm _ _ _ _ (λ a. a.0) (λ a. a.0)

  abbrev Layer : Expr-F Expr Arm → Type 0
  Layer x = At (reads_at columns (map-Expr _ _ _ _ (reads_within columns) (arm_reads_within columns) x)) (sort_at (map-Expr _ _ _ _ sort_of arm_sort x)) (value_at (map-Expr _ _ _ _ val arm_val x) row)

  layer : (y : Expr-F Each EachArm) → Layer (inside y)
  layer (form.Literal value) reads = literal_fits value
  layer (form.Column at of) reads = column_fits columns row at of fits reads
  layer (form.Widen a) reads = widen_gives (sort_of a.0) (val a.0 row) (a.1 reads)
  layer (form.Negate a) reads = negate_gives (sort_of a.0) (val a.0 row) (a.1 reads)
  layer (form.Arithmetic op a b) reads =
      arithmetic_gives op (sort_of a.0) (sort_of b.0) (val a.0 row) (val b.0 row) (a.1 (and_parts (reads_within columns a.0) (reads_within columns b.0) reads).0)
  layer (form.Concat a b) reads = concat_gives (join (sort_of a.0) (sort_of b.0)) (val a.0 row) (val b.0 row)
  layer (form.Compare op a b) reads = compare_gives (join (sort_of a.0) (sort_of b.0)) op (val a.0 row) (val b.0 row)
  layer (form.And a b) reads = truth_gives (sort_of a.0) (sort_of b.0) _ (conjunction_gives (val a.0 row) (val b.0 row))
  layer (form.Or a b) reads = truth_gives (sort_of a.0) (sort_of b.0) _ (disjunction_gives (val a.0 row) (val b.0 row))
  layer (form.Not a) reads = truth_gives (sort_of a.0) Any _ (opposite_gives (val a.0 row))
  layer (form.IsNull a) reads = formed_gives (sort_of a.0) kind.Bool _ (null_test_gives (val a.0 row))
  layer (form.InList a elements) reads =
      of_gives (join (sort_of a.0) (join_all (map sort_of (map (λ a. a.0) elements)))) kind.Bool _ (listed_gives (val a.0 row) (outcomes row (map val (map (λ a. a.0) elements))))
  layer (form.Between a low high) reads =
      of_gives (join (sort_of a.0) (join (sort_of low.0) (sort_of high.0))) kind.Bool _ (within_gives (val a.0 row) (val low.0 row) (val high.0 row))
  layer (form.Case arms other) reads =
      let both = and_parts (all_true (map (arm_reads_within columns) (map (λ a. a.0) arms))) (reads_within columns other.0) reads in
      itself_gives (join (join_results (map arm_sort (map (λ a. a.0) arms))) (sort_of other.0)) _ (case_gives arms other both.0 both.1)
  layer (form.Cast a to) reads = formed_gives (sort_of a.0) to _ (cast_gives to (val a.0 row))
  layer (form.TryCast a to) reads = formed_gives (sort_of a.0) to _ (try_cast_gives to (val a.0 row))
  layer (form.Coalesce operands) reads =
      itself_gives (join_all (map sort_of (map (λ a. a.0) operands))) _ (known_gives _ (outcomes row (map val (map (λ a. a.0) operands))) (operands_give Any operands reads))

  rolled : (x : Expr-F Expr Arm) → Layer x → IsTyped (roll-Expr x)
  rolled x f reads =
      let within = fold-roll-Expr Bool Bool (reads_at columns) arm_reads_at x in
      let sort = fold-roll-Expr Sort (Sort × Sort) sort_at kinds.arm_at x in
      let value = fold-roll-Expr Meaning (Meaning × Meaning) value_at spec.arm_at x in
      subst (λ m. Gives (sort_of (roll-Expr x)) (m row)) (sym value)
      (subst (λ s. Gives s (value_at (map-Expr _ _ _ _ val arm_val x) row)) (sym sort) (f (sym within ∙ reads)))

  rolled_arm : (y : Arm-F Each EachArm) → IsTypedArm (roll-Arm (inside_arm y))
  rolled_arm y reads =
      let x = inside_arm y in
      let within = fold-roll-Arm Bool Bool (reads_at columns) arm_reads_at x in
      let sort = fold-roll-Arm Sort (Sort × Sort) sort_at kinds.arm_at x in
      let value = fold-roll-Arm Meaning (Meaning × Meaning) value_at spec.arm_at x in
      subst (λ m. Gives (arm_sort (roll-Arm x)).1 (m.1 row)) (sym value)
      (subst (λ s. Gives s.1 (val x.gives row)) (sym sort) (y.gives.1 (and_parts (reads_within columns x.when) (reads_within columns x.gives) (sym within ∙ reads)).1))

  typed : (e : Expr) → IsTyped e
  typed = ind-Expr IsTyped IsTypedArm (λ x y is. subst (λ z. IsTyped (roll-Expr z)) is (rolled (inside y) (layer y)))
      (λ x y is. subst (λ z. IsTypedArm (roll-Arm z)) is (rolled_arm y))

-- a value of that kind, and of any
pub fits_kind : (columns : List Kind) (row : Row) (e : Expr) (k : Kind) (value : Value) → row_fits columns row ≡ true → reads_within columns e ≡ true →
    kind_in (sort_of e) ≡ Some k → val e row ≡ Ok value → value_fits k value ≡ true
fits_kind columns row e k value fits reads is gives = by_sort (sort_of e) is (subst (Gives (sort_of e)) gives (typed columns row fits e reads))
  where
    by_sort : (s : Sort) → kind_in s ≡ Some k → Gives s (Ok value) → value_fits k value ≡ true
    by_sort Ill is f = absurd (cc is)
    by_sort Any is f = absurd (cc is)
    by_sort (Of l) is f = let same : l ≡ k = cc is in subst (λ z. value_fits z value ≡ true) same f

only_null : (value : Value) → is_null value ≡ true → value ≡ Null
only_null Null f = refl
only_null value f = absurd (cc f)

pub fits_any : (columns : List Kind) (row : Row) (e : Expr) (value : Value) → row_fits columns row ≡ true → reads_within columns e ≡ true →
    sort_of e ≡ Any → val e row ≡ Ok value → value ≡ Null
fits_any columns row e value fits reads is gives =
    only_null value (subst (λ s. Gives s (Ok value)) is (subst (Gives (sort_of e)) gives (typed columns row fits e reads)))
