-- What is typed has the kind that its form gives, is well formed and reads columns of their kinds.
use Rattle.std.proofs.Common.{◌≡◌, ℕ, List, [], ◌∷◌, ◌++◌, Bool, true, false, ◌&&◌, if◌then◌else◌, map, Option, Some, None, Result, Ok, Err, refl, sym, ap, subst, ◌∙◌}
use Rattle.std.specs.Prelude.{position, slice_get, option_map, option_and_then, IfOk}
use Rattle.std.proofs.lemmas.Option.{slice_get-map}
use Rattle.value_core.specs.declared.schema.Column.{Column}
use Rattle.value_core.specs.declared.value.Kind.{Kind}
use Rattle.value_core.specs.declared.value.Kind.TheVariants as kind
use Rattle.value_core.specs.declared.value.Value.{Value}
use Rattle.value_core.specs.declared.value.Value.TheVariants.{Null, Bool as Truth, Int, Big, Str}
use Rattle.value_core.specs.Fits.{is_int}
use Rattle.value_core.specs.NameFold.{same_name}
use Rattle.sql_tree.specs.declared.expr.SqlArm.{SqlArm}
use Rattle.sql_tree.specs.declared.expr.SqlExpr.{SqlExpr}
use Rattle.sql_tree.specs.declared.expr.SqlExpr.TheFolds.{fold-roll-SqlExpr, fold-roll-SqlArm, ind-SqlExpr, map-SqlExpr, map-SqlArm}
use Rattle.sql_tree.specs.declared.expr.SqlExpr.TheOpen.{SqlExpr-F, SqlArm-F}
use Rattle.sql_tree.specs.declared.expr.SqlExpr.TheOpen as tree
use Rattle.sql_tree.specs.declared.expr.SqlExpr.TheViews.{roll-SqlExpr, roll-SqlArm}
use Rattle.sql_tree.specs.declared.expr.SqlOp.{SqlOp}
use Rattle.sql_tree.specs.declared.expr.SqlOp.TheVariants as op
use Rattle.sql_tree.specs.declared.expr.SqlType.{SqlType}
use Rattle.row_expr.specs.declared.expr.Arithmetic.{Arithmetic}
use Rattle.row_expr.specs.declared.expr.Arithmetic.TheVariants as arithmetic
use Rattle.row_expr.specs.declared.expr.Arm.{Arm}
use Rattle.row_expr.specs.declared.expr.Comparison.{Comparison}
use Rattle.row_expr.specs.declared.expr.Comparison.TheVariants as comparison
use Rattle.row_expr.specs.declared.expr.Expr.{Expr}
use Rattle.row_expr.specs.declared.expr.Expr.TheFolds.{fold-roll-Expr, fold-roll-Arm, map-Expr}
use Rattle.row_expr.specs.declared.expr.Expr.TheOpen.{Expr-F, Arm-F}
use Rattle.row_expr.specs.declared.expr.Expr.TheOpen as form
use Rattle.row_expr.specs.declared.expr.Expr.TheVariants as e
use Rattle.row_expr.specs.declared.expr.Expr.TheVariants.{rolls-Literal, rolls-Column, rolls-Widen, rolls-Negate, rolls-Arithmetic, rolls-Concat, rolls-Compare, rolls-And, rolls-Or, rolls-Not, rolls-IsNull, rolls-InList, rolls-Between, rolls-Case, rolls-Cast, rolls-TryCast, rolls-Coalesce}
use Rattle.row_expr.specs.declared.expr.Expr.TheViews.{roll-Expr}
use Rattle.row_expr.specs.declared.sort.Sort.{Sort}
use Rattle.row_expr.specs.declared.sort.Sort.TheVariants.{Ill, Any, Of}
use Rattle.row_expr.specs.Columns.{all_true, is_kind, reads_at, arm_reads_at, reads_within, arm_reads_within}
use Rattle.row_expr.specs.Kinds.{join, join_from, join_all, join_results, join_results_from, is_condition, is_formed, same_kind, sort_at, sort_of, arm_sort, sort_of_value, where_of, where_formed, number, text, truth, calculated, widened}
use Rattle.row_expr.specs.Kinds as kinds
use Rattle.expr_typing.specs.declared.operand.Branch.{Branch}
use Rattle.expr_typing.specs.declared.operand.Limits.{Limits}
use Rattle.expr_typing.specs.declared.operand.Operand.{Operand}
use Rattle.expr_typing.specs.Forms.{gives_at, arm_gives_at, gives, arm_gives}
use Rattle.expr_typing.specs.Typing.{Answers, Mismatch, first_unknown, told, typing as the_typing, wide_join, wide_join_all, kind_of_type, formed, widen_if, widened_to, literal, column, operation, not_if, null_test, among, limits, within, guarded, widened_arm, choice, first_known, cast, two, all, all_from, operand_at, branch_at, operand_of, branch_of}
use Rattle.expr_typing.specs.Typing as typing
use Rattle.expr_typing.specs.declared.typing.TypeEnd.{TypeEnd}
use Rattle.expr_typing.specs.declared.typing.TypeEnd.TheVariants.{TypeMismatch}
use Rattle.expr_typing.proofs.SortJoins.{wide, fits, fits_self, widened_join, joined_to, widened_joins, all_joined_to}
use Rattle.expr_typing.proofs.FormSorts.{own, sort_in, branch_sort, guarded_sort, layer_sort}

module _ (columns : List Column) where
  abbrev of_columns : List Kind
  of_columns = map (λ column. column.kind) columns

  abbrev Reads : Expr → Type 0
  Reads made = reads_within of_columns made ≡ true

  -- ---- an operand that is well formed, whose sort is its expression's, and which reads columns of their kinds

  record Good (o : Operand) : Type 0 where
    formed : is_formed o.sort ≡ true
    kind : sort_of o.expr ≡ o.sort
    reads : Reads o.expr

  record GoodBranch (made : Branch) : Type 0 where
    condition : is_condition (sort_of made.when) ≡ true
    reads : Reads made.when
    gives : Good made.gives

  abbrev In : {A : Type 0} → (A → Type 0) → Option A → Type 0
  In P None = Unit {0}
  In P (Some a) = P a

  -- a layer of an expression
  layer_of : (x : Expr-F Expr Arm) (made : Expr) → roll-Expr x ≡ made →
      (sort_of made ≡ sort_at (map-Expr _ _ _ _ sort_of arm_sort x)) × (reads_within of_columns made ≡ reads_at of_columns (map-Expr _ _ _ _ (reads_within of_columns) (arm_reads_within of_columns) x))
  layer_of x made is = (
    ap sort_of (sym is) ∙ fold-roll-Expr Sort (Sort × Sort) sort_at kinds.arm_at x,
    ap (reads_within of_columns) (sym is) ∙ fold-roll-Expr Bool Bool (reads_at of_columns) arm_reads_at x,
  )

  abbrev Makes : Sort → Expr → Type 0
  Makes s made = (sort_of made ≡ s) × Reads made

  layer_makes : (s : Sort) (x : Expr-F Expr Arm) (made : Expr) → roll-Expr x ≡ made → sort_at (map-Expr _ _ _ _ sort_of arm_sort x) ≡ s →
      reads_at of_columns (map-Expr _ _ _ _ (reads_within of_columns) (arm_reads_within of_columns) x) ≡ true → Makes s made
  layer_makes s x made is sort reads = let both = layer_of x made is in (both.0 ∙ sort, both.1 ∙ reads)

  good_formed : (s : Sort) (made : Expr) → (is_formed s ≡ true → Makes s made) → In Good (formed s made)
  good_formed Ill made makes = tt
  good_formed Any made makes = record { formed = refl; kind = (makes refl).0; reads = (makes refl).1 }
  good_formed (Of k) made makes = record { formed = refl; kind = (makes refl).0; reads = (makes refl).1 }

  good_one : {A : Type 0} (P : A → Type 0) (make : A → Option Operand) → ((a : A) → P a → In Good (make a)) → (a : Option A) → In P a → In Good (option_and_then make a)
  good_one P make each None good = tt
  good_one P make each (Some a) good = each a good

  good_two : {A B C : Type 0} (P : A → Type 0) (Q : B → Type 0) (R : C → Type 0) (make : A → B → Option C) → ((a : A) (b : B) → P a → Q b → In R (make a b)) →
      (a : Option A) (b : Option B) → In P a → In Q b → In R (two make a b)
  good_two P Q R make each None b f g = tt
  good_two P Q R make each (Some a) None f g = tt
  good_two P Q R make each (Some a) (Some b) f g = each a b f g

  -- ---- lists

  abbrev Each : {A : Type 0} → (A → Type 0) → List A → Type 0
  Each P [] = Unit {0}
  Each P (a ∷ more) = P a × Each P more

  each_more : {A : Type 0} (P : A → Type 0) (before : List A) (a : A) → Each P before → P a → Each P (before ++ a ∷ [])
  each_more P [] a f g = (g, tt)
  each_more P (b ∷ before) a f g = (f.0, each_more P before a f.1 g)

  good_from : {A : Type 0} (P : A → Type 0) (before : List A) (list : List (Option A)) → Each P before → Each (In P) list → In (Each P) (all_from before list)
  good_from P before [] f g = f
  good_from P before (None ∷ more) f g = tt
  good_from P before (Some a ∷ more) f g = good_from P (before ++ a ∷ []) more (each_more P before a f g.0) g.1

  good_all : {A : Type 0} (P : A → Type 0) (list : List (Option A)) → Each (In P) list → In (Each P) (all list)
  good_all P list g = good_from P [] list tt g

  -- ---- operands beside others

  widened_by : (k : Kind) (s : Sort) (a : Expr) → sort_of a ≡ s → Reads a → Makes (wide s k) (widen_if (Of k) s a)
  widened_by kind.Bool Ill a is reads = (is, reads)
  widened_by kind.Bool Any a is reads = (is, reads)
  widened_by kind.Bool (Of kind.Bool) a is reads = (is, reads)
  widened_by kind.Bool (Of kind.Int) a is reads = (is, reads)
  widened_by kind.Bool (Of kind.Big) a is reads = (is, reads)
  widened_by kind.Bool (Of kind.Str) a is reads = (is, reads)
  widened_by kind.Int Ill a is reads = (is, reads)
  widened_by kind.Int Any a is reads = (is, reads)
  widened_by kind.Int (Of kind.Bool) a is reads = (is, reads)
  widened_by kind.Int (Of kind.Int) a is reads = (is, reads)
  widened_by kind.Int (Of kind.Big) a is reads = (is, reads)
  widened_by kind.Int (Of kind.Str) a is reads = (is, reads)
  widened_by kind.Big Ill a is reads = (is, reads)
  widened_by kind.Big Any a is reads = (is, reads)
  widened_by kind.Big (Of kind.Bool) a is reads = (is, reads)
  widened_by kind.Big (Of kind.Int) a is reads = let made = layer_of (form.Widen a) (e.Widen a) (rolls-Widen a) in (made.0 ∙ ap widened is, made.1 ∙ reads)
  widened_by kind.Big (Of kind.Big) a is reads = (is, reads)
  widened_by kind.Big (Of kind.Str) a is reads = (is, reads)
  widened_by kind.Str Ill a is reads = (is, reads)
  widened_by kind.Str Any a is reads = (is, reads)
  widened_by kind.Str (Of kind.Bool) a is reads = (is, reads)
  widened_by kind.Str (Of kind.Int) a is reads = (is, reads)
  widened_by kind.Str (Of kind.Big) a is reads = (is, reads)
  widened_by kind.Str (Of kind.Str) a is reads = (is, reads)

  widens : (k : Kind) (o : Operand) → Good o → Makes (wide o.sort k) (widened_to (Of k) o)
  widens k o good = widened_by k o.sort o.expr good.kind good.reads

  all_widen : (k : Kind) (list : List Operand) → Each Good list →
      (map sort_of (map (widened_to (Of k)) list) ≡ map (λ s. wide s k) (map own list)) × (all_true (map (reads_within of_columns) (map (widened_to (Of k)) list)) ≡ true)
  all_widen k [] good = (refl, refl)
  all_widen k (o ∷ more) good =
      let one = widens k o good.0 in
      let rest = all_widen k more good.1 in (
        ap (λ s. s ∷ map sort_of (map (widened_to (Of k)) more)) one.0 ∙ ap (λ list. wide o.sort k ∷ list) rest.0,
        ap (λ b. b && all_true (map (reads_within of_columns) (map (widened_to (Of k)) more))) one.1 ∙ rest.1,
      )

  all_joins : (k : Kind) (list : List Operand) → Each Good list → fits (wide_join_all list) k ≡ true → join_all (map sort_of (map (widened_to (Of k)) list)) ≡ wide (wide_join_all list) k
  all_joins k list good h = ap join_all (all_widen k list good).0 ∙ (widened_joins k Any (map own list) h).1

  joins_to : (k : Kind) (s t : Sort) (a b : Sort) → wide_join s t ≡ Of k → a ≡ wide s k → b ≡ wide t k → join a b ≡ Of k
  joins_to k s t a b is left right = ap (λ z. join z b) left ∙ (ap (join (wide s k)) right ∙ joined_to k s t is)

  both_fit : (k : Kind) (s t : Sort) → wide_join s t ≡ Of k → (fits s k ≡ true) × (fits t k ≡ true)
  both_fit k s t is = let both = widened_join k s t (ap (λ u. fits u k) is ∙ fits_self k) in (both.0, both.1)

  both_true : (a b : Bool) → a ≡ true → b ≡ true → (a && b) ≡ true
  both_true a b f g = ap (λ c. c && b) f ∙ g

  -- ---- what is made of operands

  good_compared : (by : Comparison) (a b : Operand) → Good a → Good b → In Good (typing.compared by a b)
  good_compared by a b f g = by_join (wide_join a.sort b.sort) refl
    where
      by_join : (joined : Sort) → wide_join a.sort b.sort ≡ joined → In Good (formed (where_of joined (Of kind.Bool)) (e.Compare by (widened_to joined a) (widened_to joined b)))
      by_join Ill is = tt
      by_join Any is = tt
      by_join (Of k) is =
          let x = widened_to (Of k) a in
          let y = widened_to (Of k) b in
          let left = widens k a f in
          let right = widens k b g in
          good_formed (Of kind.Bool) (e.Compare by x y) (λ _. layer_makes (Of kind.Bool) (form.Compare by x y) (e.Compare by x y) (rolls-Compare by x y)
          (ap (λ s. where_of s (Of kind.Bool)) (joins_to k a.sort b.sort (sort_of x) (sort_of y) is left.0 right.0))
          (both_true (reads_within of_columns x) (reads_within of_columns y) left.1 right.1))

  is_of : (s : Sort) (by : Arithmetic) → is_formed (calculated by s) ≡ true → (k : Kind) × (s ≡ Of k)
  is_of (Of k) by h = (k, refl)
  is_of Ill arithmetic.Add h = absurd (cc h)
  is_of Ill arithmetic.Sub h = absurd (cc h)
  is_of Ill arithmetic.Mul h = absurd (cc h)
  is_of Ill arithmetic.Div h = absurd (cc h)
  is_of Ill arithmetic.Rem h = absurd (cc h)
  is_of Any arithmetic.Add h = absurd (cc h)
  is_of Any arithmetic.Sub h = absurd (cc h)
  is_of Any arithmetic.Mul h = absurd (cc h)
  is_of Any arithmetic.Div h = absurd (cc h)
  is_of Any arithmetic.Rem h = absurd (cc h)

  good_computed : (by : Arithmetic) (a b : Operand) → Good a → Good b → In Good (typing.computed by a b)
  good_computed by a b f g = let joined = wide_join a.sort b.sort in
      good_formed (calculated by joined) (e.Arithmetic by (widened_to joined a) (widened_to joined b)) (λ h. by_join joined refl (is_of joined by h))
    where
      by_join : (joined : Sort) → wide_join a.sort b.sort ≡ joined → (k : Kind) × (joined ≡ Of k) →
          Makes (calculated by joined) (e.Arithmetic by (widened_to joined a) (widened_to joined b))
      by_join joined is (k, of) = subst (λ j. Makes (calculated by j) (e.Arithmetic by (widened_to j a) (widened_to j b))) (sym of) (of_kind k (is ∙ of))
        where
          of_kind : (k : Kind) → wide_join a.sort b.sort ≡ Of k → Makes (calculated by (Of k)) (e.Arithmetic by (widened_to (Of k) a) (widened_to (Of k) b))
          of_kind k is =
              let x = widened_to (Of k) a in
              let y = widened_to (Of k) b in
              let left = widens k a f in
              let right = widens k b g in
              layer_makes (calculated by (Of k)) (form.Arithmetic by x y) (e.Arithmetic by x y) (rolls-Arithmetic by x y)
              (ap (calculated by) (joins_to k a.sort b.sort (sort_of x) (sort_of y) is left.0 right.0))
              (both_true (reads_within of_columns x) (reads_within of_columns y) left.1 right.1)

  -- a text joins with nothing that is widened
  text_join : (s t : Sort) → is_formed (text (wide_join s t)) ≡ true → join s t ≡ wide_join s t
  text_join (Of kind.Int) (Of kind.Big) h = absurd (cc h)
  text_join (Of kind.Big) (Of kind.Int) h = absurd (cc h)
  text_join Ill t h = refl
  text_join Any t h = refl
  text_join (Of kind.Bool) t h = refl
  text_join (Of kind.Str) t h = refl
  text_join (Of kind.Int) Ill h = refl
  text_join (Of kind.Int) Any h = refl
  text_join (Of kind.Int) (Of kind.Bool) h = refl
  text_join (Of kind.Int) (Of kind.Int) h = refl
  text_join (Of kind.Int) (Of kind.Str) h = refl
  text_join (Of kind.Big) Ill h = refl
  text_join (Of kind.Big) Any h = refl
  text_join (Of kind.Big) (Of kind.Bool) h = refl
  text_join (Of kind.Big) (Of kind.Big) h = refl
  text_join (Of kind.Big) (Of kind.Str) h = refl

  good_concatenated : (a b : Operand) → Good a → Good b → In Good (typing.concatenated a b)
  good_concatenated a b f g = good_formed (text (wide_join a.sort b.sort)) (e.Concat a.expr b.expr) (λ h.
      layer_makes (text (wide_join a.sort b.sort)) (form.Concat a.expr b.expr) (e.Concat a.expr b.expr) (rolls-Concat a.expr b.expr)
      (ap (λ s. text (join s (sort_of b.expr))) f.kind ∙ (ap (λ t. text (join a.sort t)) g.kind ∙ ap text (text_join a.sort b.sort h)))
      (both_true (reads_within of_columns a.expr) (reads_within of_columns b.expr) f.reads g.reads))

  good_and : (a b : Operand) → Good a → Good b → In Good (typing.connected e.And a b)
  good_and a b f g = good_formed (truth a.sort b.sort) (e.And a.expr b.expr) (λ _.
      layer_makes (truth a.sort b.sort) (form.And a.expr b.expr) (e.And a.expr b.expr) (rolls-And a.expr b.expr)
      (ap (λ s. truth s (sort_of b.expr)) f.kind ∙ ap (truth a.sort) g.kind) (both_true (reads_within of_columns a.expr) (reads_within of_columns b.expr) f.reads g.reads))

  good_or : (a b : Operand) → Good a → Good b → In Good (typing.connected e.Or a b)
  good_or a b f g = good_formed (truth a.sort b.sort) (e.Or a.expr b.expr) (λ _.
      layer_makes (truth a.sort b.sort) (form.Or a.expr b.expr) (e.Or a.expr b.expr) (rolls-Or a.expr b.expr)
      (ap (λ s. truth s (sort_of b.expr)) f.kind ∙ ap (truth a.sort) g.kind) (both_true (reads_within of_columns a.expr) (reads_within of_columns b.expr) f.reads g.reads))

  good_operation : (of : SqlOp) (a b : Operand) → Good a → Good b → In Good (operation of a b)
  good_operation op.Or a b f g = good_or a b f g
  good_operation op.And a b f g = good_and a b f g
  good_operation op.Eq a b f g = good_compared comparison.Eq a b f g
  good_operation op.Ne a b f g = good_compared comparison.Ne a b f g
  good_operation op.Lt a b f g = good_compared comparison.Lt a b f g
  good_operation op.Le a b f g = good_compared comparison.Le a b f g
  good_operation op.Gt a b f g = good_compared comparison.Gt a b f g
  good_operation op.Ge a b f g = good_compared comparison.Ge a b f g
  good_operation op.Add a b f g = good_computed arithmetic.Add a b f g
  good_operation op.Sub a b f g = good_computed arithmetic.Sub a b f g
  good_operation op.Concat a b f g = good_concatenated a b f g
  good_operation op.Mul a b f g = good_computed arithmetic.Mul a b f g
  good_operation op.Div a b f g = good_computed arithmetic.Div a b f g
  good_operation op.Rem a b f g = good_computed arithmetic.Rem a b f g

  good_literal : (value : Value) → In Good (literal value)
  good_literal value = good_formed (sort_of_value value) (e.Literal value) (λ _. layer_makes (sort_of_value value) (form.Literal value) (e.Literal value) (rolls-Literal value) refl refl)

  good_negated : (a : Operand) → Good a → In Good (typing.negated a)
  good_negated a f = good_formed (number a.sort) (e.Negate a.expr) (λ _.
      layer_makes (number a.sort) (form.Negate a.expr) (e.Negate a.expr) (rolls-Negate a.expr) (ap number f.kind) f.reads)

  makes_not : (s : Sort) (a : Expr) → sort_of a ≡ s → Reads a → Makes (truth s Any) (e.Not a)
  makes_not s a is reads = layer_makes (truth s Any) (form.Not a) (e.Not a) (rolls-Not a) (ap (λ t. truth t Any) is) reads

  good_opposite : (a : Operand) → Good a → In Good (typing.opposite a)
  good_opposite a f = good_formed (truth a.sort Any) (e.Not a.expr) (λ _. makes_not a.sort a.expr f.kind f.reads)

  makes_test : (negated : Bool) (test : Expr) → Makes (Of kind.Bool) test → Makes (Of kind.Bool) (not_if negated test)
  makes_test false test makes = makes
  makes_test true test makes = makes_not (Of kind.Bool) test makes.0 makes.1

  where_is : (s gives : Sort) → is_formed (where_formed s gives) ≡ true → where_formed s gives ≡ gives
  where_is Ill gives h = absurd (cc h)
  where_is Any gives h = refl
  where_is (Of k) gives h = refl

  good_null_test : (negated : Bool) (a : Operand) → Good a → In Good (null_test negated a)
  good_null_test negated a f = good_formed (where_formed a.sort (Of kind.Bool)) (not_if negated (e.IsNull a.expr)) (λ h.
      let is = where_is a.sort (Of kind.Bool) h in
      let test = layer_makes (Of kind.Bool) (form.IsNull a.expr) (e.IsNull a.expr) (rolls-IsNull a.expr) (ap (λ s. where_formed s (Of kind.Bool)) f.kind ∙ is) f.reads in
      subst (λ s. Makes s (not_if negated (e.IsNull a.expr))) (sym is) (makes_test negated (e.IsNull a.expr) test))

  good_among : (negated : Bool) (a : Operand) (list : List Operand) → Good a → Each Good list → In Good (among negated a list)
  good_among negated a list f g = by_join (wide_join a.sort (wide_join_all list)) refl
    where
      by_join : (joined : Sort) → wide_join a.sort (wide_join_all list) ≡ joined →
          In Good (formed (where_of joined (Of kind.Bool)) (not_if negated (e.InList (widened_to joined a) (map (widened_to joined) list))))
      by_join Ill is = tt
      by_join Any is = tt
      by_join (Of k) is =
          let x = widened_to (Of k) a in
          let ys = map (widened_to (Of k)) list in
          let left = widens k a f in
          let right = all_joins k list g (both_fit k a.sort (wide_join_all list) is).1 in
          let test = layer_makes (Of kind.Bool) (form.InList x ys) (e.InList x ys) (rolls-InList x ys)
          (ap (λ s. where_of s (Of kind.Bool)) (joins_to k a.sort (wide_join_all list) (sort_of x) (join_all (map sort_of ys)) is left.0 right))
          (both_true (reads_within of_columns x) (all_true (map (reads_within of_columns) ys)) left.1 (all_widen k list g).1) in
          good_formed (Of kind.Bool) (not_if negated (e.InList x ys)) (λ _. makes_test negated (e.InList x ys) test)

  record GoodLimits (between : Limits) : Type 0 where
    low : Good between.low
    high : Good between.high

  good_within : (negated : Bool) (a : Operand) (between : Limits) → Good a → GoodLimits between → In Good (within negated a between)
  good_within negated a between f g = by_join (wide_join a.sort inner) refl
    where
      inner : Sort
      inner = wide_join between.low.sort between.high.sort

      by_join : (joined : Sort) → wide_join a.sort (wide_join between.low.sort between.high.sort) ≡ joined →
          In Good (formed (where_of joined (Of kind.Bool)) (not_if negated (e.Between (widened_to joined a) (widened_to joined between.low) (widened_to joined between.high))))
      by_join Ill is = tt
      by_join Any is = tt
      by_join (Of k) is =
          let x = widened_to (Of k) a in
          let y = widened_to (Of k) between.low in
          let z = widened_to (Of k) between.high in
          let left = widens k a f in
          let low = widens k between.low g.low in
          let high = widens k between.high g.high in
          let fit = (both_fit k a.sort (wide_join between.low.sort between.high.sort) is).1 in
          let right : join (sort_of y) (sort_of z) ≡ wide (wide_join between.low.sort between.high.sort) k =
          ap (λ s. join s (sort_of z)) low.0 ∙ (ap (join (wide between.low.sort k)) high.0 ∙ (widened_join k between.low.sort between.high.sort fit).2) in
          let test = layer_makes (Of kind.Bool) (form.Between x y z) (e.Between x y z) (rolls-Between x y z)
          (ap (λ s. where_of s (Of kind.Bool)) (joins_to k a.sort (wide_join between.low.sort between.high.sort) (sort_of x) (join (sort_of y) (sort_of z)) is left.0 right))
          (both_true (reads_within of_columns x) (reads_within of_columns y && reads_within of_columns z) left.1 (both_true (reads_within of_columns y) (reads_within of_columns z) low.1 high.1)) in
          good_formed (Of kind.Bool) (not_if negated (e.Between x y z)) (λ _. makes_test negated (e.Between x y z) test)

  -- ---- CASE, coalesce, CAST

  if_condition : (b : Bool) (s : Sort) → b ≡ true → (if b then s else Ill) ≡ s
  if_condition b s is = ap (λ c. if c then s else Ill) is

  arm_is : (k : Kind) (made : Branch) → GoodBranch made →
      (arm_sort (widened_arm (Of k) made) ≡ (sort_of made.when, wide made.gives.sort k)) × (arm_reads_within of_columns (widened_arm (Of k) made) ≡ true)
  arm_is k made good =
      let x : Arm-F Expr Arm = record { when = made.when; gives = widened_to (Of k) made.gives } in
      let taken = widens k made.gives good.gives in (
        fold-roll-Arm Sort (Sort × Sort) sort_at kinds.arm_at x ∙ ap (λ s. (sort_of made.when, s)) taken.0,
        fold-roll-Arm Bool Bool (reads_at of_columns) arm_reads_at x ∙ both_true (reads_within of_columns made.when) (reads_within of_columns (widened_to (Of k) made.gives)) good.reads taken.1,
      )

  arms_join : (k : Kind) (s : Sort) (branches : List Branch) → Each GoodBranch branches →
      (join_results_from s (map arm_sort (map (widened_arm (Of k)) branches)) ≡ join_from s (map (λ t. wide t k) (map own (map (λ made. made.gives) branches))))
      × (all_true (map (arm_reads_within of_columns) (map (widened_arm (Of k)) branches)) ≡ true)
  arms_join k s [] good = (refl, refl)
  arms_join k s (made ∷ more) good =
      let one = arm_is k made good.0 in
      let rest = arms_join k (join s (wide made.gives.sort k)) more good.1 in
      let arms = map arm_sort (map (widened_arm (Of k)) more) in (
        ap (λ (arm : Sort × Sort). join_results_from s (arm ∷ arms)) one.0
            ∙ (if_condition (is_condition (sort_of made.when)) (join_results_from (join s (wide made.gives.sort k)) arms) good.0.condition ∙ rest.0),
        both_true (arm_reads_within of_columns (widened_arm (Of k) made)) (all_true (map (arm_reads_within of_columns) (map (widened_arm (Of k)) more))) one.1 rest.1,
      )

  good_choice : (branches : List Branch) (other : Operand) → Each GoodBranch branches → Good other → In Good (choice branches other)
  good_choice branches other f g = by_join (wide_join (wide_join_all (map (λ made. made.gives) branches)) other.sort) refl
    where
      by_join : (joined : Sort) → wide_join (wide_join_all (map (λ made. made.gives) branches)) other.sort ≡ joined →
          In Good (formed (where_of joined joined) (e.Case (map (widened_arm joined) branches) (widened_to joined other)))
      by_join Ill is = tt
      by_join Any is = tt
      by_join (Of k) is =
          let arms = map (widened_arm (Of k)) branches in
          let last = widened_to (Of k) other in
          let s = wide_join_all (map (λ made. made.gives) branches) in
          let front = arms_join k Any branches f in
          let left : join_results (map arm_sort arms) ≡ wide s k =
          front.0 ∙ (widened_joins k Any (map own (map (λ made. made.gives) branches)) (both_fit k s other.sort is).0).1 in
          let right = widens k other g in
          good_formed (Of k) (e.Case arms last) (λ _. layer_makes (Of k) (form.Case arms last) (e.Case arms last) (rolls-Case arms last)
          (ap (λ j. where_of j j) (joins_to k s other.sort (join_results (map arm_sort arms)) (sort_of last) is left right.0))
          (both_true (all_true (map (arm_reads_within of_columns) arms)) (reads_within of_columns last) front.1 right.1))

  good_first_known : (list : List Operand) → Each Good list → In Good (first_known list)
  good_first_known list g = by_join (wide_join_all list) refl
    where
      by_join : (joined : Sort) → wide_join_all list ≡ joined → In Good (formed (where_of joined joined) (e.Coalesce (map (widened_to joined) list)))
      by_join Ill is = tt
      by_join Any is = tt
      by_join (Of k) is =
          let ys = map (widened_to (Of k)) list in
          good_formed (Of k) (e.Coalesce ys) (λ _. layer_makes (Of k) (form.Coalesce ys) (e.Coalesce ys) (rolls-Coalesce ys)
          (ap (λ j. where_of j j) (ap join_all (all_widen k list g).0 ∙ all_joined_to k (map own list) is)) (all_widen k list g).1)

  good_cast : (to : SqlType) (trying : Bool) (a : Operand) → Good a → In Good (cast to trying a)
  good_cast to true a f = good_formed (where_formed a.sort (Of (kind_of_type to))) (e.TryCast a.expr (kind_of_type to)) (λ _.
      layer_makes (where_formed a.sort (Of (kind_of_type to))) (form.TryCast a.expr (kind_of_type to)) (e.TryCast a.expr (kind_of_type to)) (rolls-TryCast a.expr (kind_of_type to))
      (ap (λ s. where_formed s (Of (kind_of_type to))) f.kind) f.reads)
  good_cast to false a f = good_formed (where_formed a.sort (Of (kind_of_type to))) (e.Cast a.expr (kind_of_type to)) (λ _.
      layer_makes (where_formed a.sort (Of (kind_of_type to))) (form.Cast a.expr (kind_of_type to)) (e.Cast a.expr (kind_of_type to)) (rolls-Cast a.expr (kind_of_type to))
      (ap (λ s. where_formed s (Of (kind_of_type to))) f.kind) f.reads)

  same_self : (k : Kind) → same_kind k k ≡ true
  same_self kind.Bool = refl
  same_self kind.Int = refl
  same_self kind.Big = refl
  same_self kind.Str = refl

  good_column : (at : Option ℕ) → In Good (option_and_then (λ at. option_map (λ found. record { expr = e.Column at found.kind; sort = Of found.kind }) (slice_get columns at)) at)
  good_column None = tt
  good_column (Some at) = by_found (slice_get columns at) refl
    where
      by_found : (found : Option Column) → slice_get columns at ≡ found → In Good (option_map (λ found. record { expr = e.Column at found.kind; sort = Of found.kind }) found)
      by_found None is = tt
      by_found (Some c) is =
          let makes = layer_makes (Of c.kind) (form.Column at c.kind) (e.Column at c.kind) (rolls-Column at c.kind) refl
          (ap (is_kind c.kind) (slice_get-map (λ column. column.kind) columns at ∙ ap (option_map (λ column. column.kind)) is) ∙ same_self c.kind) in
          record { formed = refl; kind = makes.0; reads = makes.1 }

  good_guarded : (when gives : Operand) → Good when → Good gives → In GoodBranch (guarded when gives)
  good_guarded when gives f g = by_test (is_condition when.sort) refl
    where
      by_test : (b : Bool) → is_condition when.sort ≡ b → In GoodBranch (if b then Some (record { when = when.expr; gives = gives }) else None)
      by_test true is = record { condition = ap is_condition f.kind ∙ is; reads = f.reads; gives = g }
      by_test false is = tt

  -- ---- each expression

  abbrev IsTyped : SqlExpr → Type 0
  IsTyped x = (sort_in (operand_of columns x) ≡ gives columns x) × In Good (operand_of columns x)

  abbrev IsTypedArm : SqlArm → Type 0
  IsTypedArm arm = (branch_sort (branch_of columns arm) ≡ arm_gives columns arm) × In GoodBranch (branch_of columns arm)

  abbrev Typed : Type 0
  Typed = (x : SqlExpr) × IsTyped x

  abbrev TypedArm : Type 0
  TypedArm = (arm : SqlArm) × IsTypedArm arm

  abbrev inside : SqlExpr-F Typed TypedArm → SqlExpr-F SqlExpr SqlArm
  inside = map-SqlExpr _ _ _ _ (λ a. a.0) (λ a. a.0)

  abbrev inside_arm : SqlArm-F Typed TypedArm → SqlArm-F SqlExpr SqlArm
  inside_arm = map-SqlArm _ _ _ _ (λ a. a.0) (λ a. a.0)

  abbrev operands : SqlExpr-F SqlExpr SqlArm → SqlExpr-F (Option Operand) (Option Branch)
  operands = map-SqlExpr _ _ _ _ (operand_of columns) (branch_of columns)

  list_sorts : (list : List Typed) → map sort_in (map (operand_of columns) (map (λ a. a.0) list)) ≡ map (gives columns) (map (λ a. a.0) list)
  list_sorts [] = refl
  list_sorts (a ∷ more) = ap (λ s. s ∷ map sort_in (map (operand_of columns) (map (λ a. a.0) more))) a.1.0 ∙ ap (λ list. gives columns a.0 ∷ list) (list_sorts more)

  arm_sorts : (list : List TypedArm) → map branch_sort (map (branch_of columns) (map (λ a. a.0) list)) ≡ map (arm_gives columns) (map (λ a. a.0) list)
  arm_sorts [] = refl
  arm_sorts (a ∷ more) = ap (λ s. s ∷ map branch_sort (map (branch_of columns) (map (λ a. a.0) more))) a.1.0 ∙ ap (λ list. arm_gives columns a.0 ∷ list) (arm_sorts more)

  same_sorts : (y : SqlExpr-F Typed TypedArm) → map-SqlExpr _ _ _ _ sort_in branch_sort (operands (inside y)) ≡ map-SqlExpr _ _ _ _ (gives columns) (arm_gives columns) (inside y)
  same_sorts (tree.Number n) = refl
  same_sorts (tree.Str s) = refl
  same_sorts (tree.Bool b) = refl
  same_sorts tree.Null = refl
  same_sorts (tree.Name name) = refl
  same_sorts (tree.Neg a) = ap tree.Neg a.1.0
  same_sorts (tree.Not a) = ap tree.Not a.1.0
  same_sorts (tree.Binary of a b) = ap (λ s. tree.Binary of s (sort_in (operand_of columns b.0))) a.1.0 ∙ ap (tree.Binary of (gives columns a.0)) b.1.0
  same_sorts (tree.IsNull a negated) = ap (λ s. tree.IsNull s negated) a.1.0
  same_sorts (tree.InList a list negated) =
      ap (λ s. tree.InList s (map sort_in (map (operand_of columns) (map (λ a. a.0) list))) negated) a.1.0 ∙ ap (λ ts. tree.InList (gives columns a.0) ts negated) (list_sorts list)
  same_sorts (tree.Between a low high negated) =
      ap (λ s. tree.Between s (sort_in (operand_of columns low.0)) (sort_in (operand_of columns high.0)) negated) a.1.0
      ∙ (ap (λ s. tree.Between (gives columns a.0) s (sort_in (operand_of columns high.0)) negated) low.1.0 ∙ ap (λ s. tree.Between (gives columns a.0) (gives columns low.0) s negated) high.1.0)
  same_sorts (tree.Case arms None) = ap (λ list. tree.Case list None) (arm_sorts arms)
  same_sorts (tree.Case arms (Some a)) =
      ap (λ list. tree.Case list (Some (sort_in (operand_of columns a.0)))) (arm_sorts arms) ∙ ap (λ s. tree.Case (map (arm_gives columns) (map (λ a. a.0) arms)) (Some s)) a.1.0
  same_sorts (tree.Cast a to trying) = ap (λ s. tree.Cast s to trying) a.1.0
  same_sorts (tree.Coalesce list) = ap tree.Coalesce (list_sorts list)
  same_sorts tree.CountAll = refl
  same_sorts (tree.Count a) = ap tree.Count a.1.0
  same_sorts (tree.Sum a) = ap tree.Sum a.1.0
  same_sorts (tree.Min a) = ap tree.Min a.1.0
  same_sorts (tree.Max a) = ap tree.Max a.1.0

  list_good : (list : List Typed) → Each (In Good) (map (operand_of columns) (map (λ a. a.0) list))
  list_good [] = tt
  list_good (a ∷ more) = (a.1.1, list_good more)

  arms_good : (list : List TypedArm) → Each (In GoodBranch) (map (branch_of columns) (map (λ a. a.0) list))
  arms_good [] = tt
  arms_good (a ∷ more) = (a.1.1, arms_good more)

  layer_good : (y : SqlExpr-F Typed TypedArm) → In Good (operand_at columns (operands (inside y)))
  layer_good (tree.Number n) = good_literal (if is_int n then Int n else Big n)
  layer_good (tree.Str s) = good_literal (Str s)
  layer_good (tree.Bool b) = good_literal (Truth b)
  layer_good tree.Null = good_literal Null
  layer_good (tree.Name name) = good_column (position (λ found. same_name found.name name) columns)
  layer_good (tree.Neg a) = good_one Good typing.negated good_negated (operand_of columns a.0) a.1.1
  layer_good (tree.Not a) = good_one Good typing.opposite good_opposite (operand_of columns a.0) a.1.1
  layer_good (tree.Binary of a b) = good_two Good Good Good (operation of) (good_operation of) (operand_of columns a.0) (operand_of columns b.0) a.1.1 b.1.1
  layer_good (tree.IsNull a negated) = good_one Good (null_test negated) (good_null_test negated) (operand_of columns a.0) a.1.1
  layer_good (tree.InList a list negated) =
      good_two Good (Each Good) Good (among negated) (good_among negated) (operand_of columns a.0) (all (map (operand_of columns) (map (λ a. a.0) list))) a.1.1
      (good_all Good (map (operand_of columns) (map (λ a. a.0) list)) (list_good list))
  layer_good (tree.Between a low high negated) =
      good_two Good GoodLimits Good (within negated) (good_within negated) (operand_of columns a.0) (two limits (operand_of columns low.0) (operand_of columns high.0)) a.1.1
      (good_two Good Good GoodLimits limits (λ a b f g. record { low = f; high = g }) (operand_of columns low.0) (operand_of columns high.0) low.1.1 high.1.1)
  layer_good (tree.Case arms None) =
      good_two (Each GoodBranch) Good Good choice good_choice (all (map (branch_of columns) (map (λ a. a.0) arms))) (literal Null)
      (good_all GoodBranch (map (branch_of columns) (map (λ a. a.0) arms)) (arms_good arms)) (good_literal Null)
  layer_good (tree.Case arms (Some a)) =
      good_two (Each GoodBranch) Good Good choice good_choice (all (map (branch_of columns) (map (λ a. a.0) arms))) (operand_of columns a.0)
      (good_all GoodBranch (map (branch_of columns) (map (λ a. a.0) arms)) (arms_good arms)) a.1.1
  layer_good (tree.Cast a to trying) = good_one Good (cast to trying) (good_cast to trying) (operand_of columns a.0) a.1.1
  layer_good (tree.Coalesce list) =
      good_one (Each Good) first_known good_first_known (all (map (operand_of columns) (map (λ a. a.0) list))) (good_all Good (map (operand_of columns) (map (λ a. a.0) list)) (list_good list))
  layer_good tree.CountAll = tt
  layer_good (tree.Count a) = tt
  layer_good (tree.Sum a) = tt
  layer_good (tree.Min a) = tt
  layer_good (tree.Max a) = tt

  rolled : (y : SqlExpr-F Typed TypedArm) → IsTyped (roll-SqlExpr (inside y))
  rolled y =
      let x = inside y in
      let operand = fold-roll-SqlExpr (Option Operand) (Option Branch) (operand_at columns) branch_at x in
      let given = fold-roll-SqlExpr Sort Sort (gives_at columns) arm_gives_at x in (
        ap sort_in operand ∙ (layer_sort columns (operands x) ∙ (ap (gives_at columns) (same_sorts y) ∙ sym given)),
        subst (In Good) (sym operand) (layer_good y),
      )

  rolled_arm : (y : SqlArm-F Typed TypedArm) → IsTypedArm (roll-SqlArm (inside_arm y))
  rolled_arm y =
      let x = inside_arm y in
      let when = operand_of columns x.when in
      let taken = operand_of columns x.then in
      let branch = fold-roll-SqlArm (Option Operand) (Option Branch) (operand_at columns) branch_at x in
      let given = fold-roll-SqlArm Sort Sort (gives_at columns) arm_gives_at x in (
        ap branch_sort branch
            ∙ (guarded_sort when taken
            ∙ (ap (λ s. if is_condition s then sort_in taken else Ill) y.when.1.0
            ∙ (ap (λ t. if is_condition (gives columns x.when) then t else Ill) y.then.1.0 ∙ sym given))),
        subst (In GoodBranch) (sym branch) (good_two Good Good GoodBranch guarded good_guarded when taken y.when.1.1 y.then.1.1),
      )

  each_typed : (x : SqlExpr) → IsTyped x
  each_typed = ind-SqlExpr IsTyped IsTypedArm (λ x y is. subst (λ z. IsTyped (roll-SqlExpr z)) is (rolled y)) (λ x y is. subst (λ z. IsTypedArm (roll-SqlArm z)) is (rolled_arm y))

-- ---- the clauses of the call

-- what is told of a tree
told_of : (columns : List Column) (x : SqlExpr) (unknown : Option (List ℕ)) (found : Option Operand) (made : Expr) → told unknown found ≡ Ok made →
    sort_in found ≡ gives columns x → In columns (Good columns) found →
    (sort_of made ≡ gives columns x) × (is_formed (sort_of made) ≡ true) × (reads_within (of_columns columns) made ≡ true)
told_of columns x (Some name) found made is sort good = absurd (cc is)
told_of columns x None None made is sort good = absurd (cc is)
told_of columns x None (Some o) made is sort good =
    let same : o.expr ≡ made = cc is in
    subst (λ z. (sort_of z ≡ gives columns x) × (is_formed (sort_of z) ≡ true) × (reads_within (of_columns columns) z ≡ true)) same
    (good.kind ∙ sort, ap is_formed good.kind ∙ good.formed, good.reads)

ill_of : (columns : List Column) (x : SqlExpr) (unknown : Option (List ℕ)) (found : Option Operand) → told unknown found ≡ Err Mismatch → sort_in found ≡ gives columns x → gives columns x ≡ Ill
ill_of columns x (Some name) found is sort = absurd (cc is)
ill_of columns x None None is sort = sym sort
ill_of columns x None (Some o) is sort = absurd (cc is)

abbrev IsSound : List Column → SqlExpr → Expr → Type 0
IsSound columns x made = (sort_of made ≡ gives columns x) × (is_formed (sort_of made) ≡ true) × (reads_within (of_columns columns) made ≡ true)

sound_of : (columns : List Column) (x : SqlExpr) (made : Expr) → the_typing columns x ≡ Ok made → IsSound columns x made
sound_of columns x made is = let typed = each_typed columns x in told_of columns x (first_unknown columns x) (operand_of columns x) made is typed.0 typed.1

pub answer_kind : (columns : List Column) (x : SqlExpr) (r : Result Expr TypeEnd) → Answers (the_typing columns x) r → IfOk r (λ made. sort_of made ≡ gives columns x)
answer_kind columns x (Ok made) is = (sound_of columns x made is).0
answer_kind columns x (Err end) is = tt

pub answer_formed : (columns : List Column) (x : SqlExpr) (r : Result Expr TypeEnd) → Answers (the_typing columns x) r → IfOk r (λ made. is_formed (sort_of made) ≡ true)
answer_formed columns x (Ok made) is = (sound_of columns x made is).1
answer_formed columns x (Err end) is = tt

pub answer_reads : (columns : List Column) (x : SqlExpr) (r : Result Expr TypeEnd) → Answers (the_typing columns x) r →
    IfOk r (λ made. reads_within (map (λ column. column.kind) columns) made ≡ true)
answer_reads columns x (Ok made) is = (sound_of columns x made is).2
answer_reads columns x (Err end) is = tt

pub answer_mismatch : (columns : List Column) (x : SqlExpr) (r : Result Expr TypeEnd) → Answers (the_typing columns x) r → r ≡ Err TypeMismatch → gives columns x ≡ Ill
answer_mismatch columns x r is same =
    ill_of columns x (first_unknown columns x) (operand_of columns x) (subst (Answers (the_typing columns x)) same is) (each_typed columns x).0
