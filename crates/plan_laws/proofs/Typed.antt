-- The conditions of a change feed are typed over the columns that it reads.
use Rattle.std.proofs.Common.{◌≡◌, Bool, true, false, List, Option, Some, None, Result, Ok, Err, IfOk, refl, ap, ◌∙◌}
use Rattle.std.specs.Prelude.{◌&&◌, if◌then◌else◌, IsTrue}
use Rattle.sql_tree.specs.declared.expr.SqlExpr.{SqlExpr}
use Rattle.sql_tree.specs.declared.statement.CdcTree.{CdcTree}
use Rattle.value_core.specs.declared.schema.Column.{Column}
use Rattle.row_expr.specs.declared.expr.Expr.{Expr}
use Rattle.row_expr.specs.Columns.{reads_within}
use Rattle.row_expr.specs.Kinds.{is_condition, sort_of}
use Rattle.expr_typing.specs.Typing.{Mistyped, Mismatch, UnknownName as NoColumn, first_of, typing}
use Rattle.expr_typing.proofs.TypedTrees.{answer_reads}
use Rattle.plan_core.specs.Sound.{is_condition_over, kinds_of}
use Rattle.statement_checks.specs.declared.fault.CheckFault.TheVariants.{TypeMismatch}
use Rattle.feed_checks.specs.declared.parts.Conditions.{Conditions}
use Rattle.feed_checks.specs.declared.parts.FeedParts.{FeedParts}
use Rattle.feed_checks.specs.Clauses.{given_columns}
use Rattle.feed_checks.specs.Feeds.{columns_with, condition_by, condition_over, conditions_of, conditions_with, feed_checks, feed_names_known, feed_parts, parts_behind, parts_over, parts_with, passed, then_checked}
use Rattle.plan_laws.proofs.Binding.{behind_clause, given_ok}

abbrev pub IsTyped : List Column → Option Expr → Type 0
IsTyped columns made = is_condition_over (kinds_of columns) made ≡ true

and_true : (a b : Bool) → a ≡ true → b ≡ true → (a && b) ≡ true
and_true a b f g = ap (λ (c : Bool). c && b) f ∙ g

if_condition : (columns : List Column) (made : Expr) (is : Bool) → reads_within (kinds_of columns) made ≡ true → is_condition (sort_of made) ≡ is → IfOk (if is then Ok (Some made) else Err TypeMismatch) (IsTyped columns)
if_condition columns made true reads is = and_true (reads_within (kinds_of columns) made) (is_condition (sort_of made)) reads is
if_condition columns made false reads is = tt

typed_by : (columns : List Column) (tree : SqlExpr) (found : Result Expr Mistyped) → typing columns tree ≡ found → IfOk (condition_by found) (IsTyped columns)
typed_by columns tree (Ok made) is = if_condition columns made (is_condition (sort_of made)) (answer_reads columns tree (Ok made) is) refl
typed_by columns tree (Err (NoColumn name)) is = tt
typed_by columns tree (Err Mismatch) is = tt

condition_typed : (columns : List Column) (tree : Option SqlExpr) → IfOk (condition_over columns tree) (IsTyped columns)
condition_typed columns None = refl
condition_typed columns (Some tree) = typed_by columns tree (typing columns tree) refl

record AreTyped (columns : List Column) (made : Conditions) : Type 0 where
  delete : IsTyped columns made.delete_when
  truncate : IsTyped columns made.truncate_when

conditions_typed : (feed : CdcTree) (source : List Column) → IfOk (conditions_of feed source) (AreTyped source)
conditions_typed feed source =
    behind_clause (AreTyped source) (condition_over source feed.delete_when) (λ (d : Option Expr). then_checked (condition_over source feed.truncate_when) (λ (t : Option Expr). Ok (conditions_with d t))) (λ d is_d.
    behind_clause (AreTyped source) (condition_over source feed.truncate_when) (λ (t : Option Expr). Ok (conditions_with d t)) (λ t is_t. record {
      delete = given_ok (IsTyped source) (condition_over source feed.delete_when) d is_d (condition_typed source feed.delete_when);
      truncate = given_ok (IsTyped source) (condition_over source feed.truncate_when) t is_t (condition_typed source feed.truncate_when);
    }))

pub record HasTyped (columns : List Column) (parts : FeedParts) : Type 0 where
  pub delete : IsTrue (is_condition_over (kinds_of columns) parts.delete_when)
  pub truncate : IsTrue (is_condition_over (kinds_of columns) parts.truncate_when)

parts_typed : (feed : CdcTree) (source given : List Column) → IfOk (parts_over feed source given) (HasTyped source)
parts_typed feed source given =
    behind_clause (HasTyped source) (passed (feed_names_known feed source given)) (λ u. then_checked (conditions_of feed source) (λ (made : Conditions). parts_behind feed source given made)) (λ u known.
    behind_clause (HasTyped source) (conditions_of feed source) (λ (made : Conditions). parts_behind feed source given made) (λ made is.
    behind_clause (HasTyped source) (passed (first_of (feed_checks feed given))) (λ v. Ok (parts_with feed (columns_with feed source given) made)) (λ v checked.
    let typed = given_ok (AreTyped source) (conditions_of feed source) made is (conditions_typed feed source) in
    record { delete = typed.delete; truncate = typed.truncate })))

-- what a change feed gives has conditions that are typed
pub feed_typed : (feed : CdcTree) (source : List Column) (parts : FeedParts) → feed_parts feed source ≡ Ok parts → HasTyped source parts
feed_typed feed source parts is = given_ok (HasTyped source) (feed_parts feed source) parts is (parts_typed feed source (given_columns feed source))
