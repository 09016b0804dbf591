-- What the flows and the view give row by row.
use Rattle.std.proofs.Common.{◌≡◌, ℕ, List, [], ◌∷◌, Bool, true, false, not, if◌then◌else◌, map, slice_get, count_by, codes, Some, None, option_map, unwrap_or, Ok, sym, ap, ◌∙◌}
use Rattle.std.specs.Prelude.{slice_index_or}
use Rattle.std.specs.List.{cons_option}
use Rattle.std.specs.Option.{option_or}
use Rattle.value_core.specs.declared.value.Kind.{Kind}
use Rattle.value_core.specs.declared.value.Kind.TheVariants as kind
use Rattle.value_core.specs.declared.value.Value.TheVariants.{Null}
use Rattle.value_core.specs.Bags.{in_row_order}
use Rattle.value_core.specs.Order.{Row, is_true}
use Rattle.row_expr.specs.declared.expr.Expr.{fold-roll-Expr}
use Rattle.row_expr.specs.declared.expr.Expr.TheOpen as form
use Rattle.row_expr.specs.declared.expr.Expr.TheVariants as expr
use Rattle.row_expr.specs.declared.expr.Expr.TheVariants.{rolls-Column}
use Rattle.row_expr.specs.declared.sort.Sort.{Sort}
use Rattle.row_expr.specs.declared.sort.Sort.TheVariants.{Of}
use Rattle.row_expr.specs.Columns.{arm_reads_at, is_kind, reads_at, reads_within}
use Rattle.row_expr.specs.Eval as eval
use Rattle.row_expr.specs.Eval.{Meaning, and_then, val, value_at}
use Rattle.row_expr.specs.Kinds as kinds
use Rattle.row_expr.specs.Kinds.{kind_in, sort_at, sort_of}
use Rattle.plan_core.specs.declared.expectation.Action.TheVariants.{FailUpdate}
use Rattle.plan_core.specs.declared.expectation.Expectation.{Expectation}
use Rattle.plan_core.specs.declared.expectation.Verdict.TheVariants.{Keep}
use Rattle.plan_core.specs.declared.stop.Place.TheVariants.{Number}
use Rattle.plan_core.specs.declared.stop.Stop.TheVariants as stop
use Rattle.plan_core.specs.Sound.{all_there, kind_over, kinds_over}
use Rattle.flow_model.specs.Admission.{admit, counts, is_pass, objection_of}
use Rattle.flow_model.specs.Append.{Keeps, PassedOver, Stops, append_out, append_seen, append_stop, by_outputs, by_verdict, by_where, cause_of, judged, kept_of, projected, seen_of, takes}
use Rattle.flow_model.specs.Causes.{Fails, stop_at}
use Rattle.flow_model.specs.Views.{Share, Viewed, ask, fault_stop, first_of, judged_view, read_all, share, shared, unless, viewed}
use Rattle.standing_worked.specs.Worked.{a_is, b_is, from_bronze, from_files, from_silver, must_be_b, row, tally}

-- ---- columns

val_at : (at : ℕ) (r : Row) → val (expr.Column at kind.Bool) r ≡ Ok (slice_index_or r at Null)
val_at at r = ap (λ (f : Meaning). f r) (ap val (sym (rolls-Column at kind.Bool)) ∙ fold-roll-Expr Meaning (Meaning × Meaning) value_at eval.arm_at (form.Column at kind.Bool))

pub reads_is : (columns : List Kind) (at : ℕ) → reads_within columns (expr.Column at kind.Bool) ≡ is_kind kind.Bool (slice_get columns at)
reads_is columns at = ap (reads_within columns) (sym (rolls-Column at kind.Bool)) ∙ fold-roll-Expr Bool Bool (reads_at columns) arm_reads_at (form.Column at kind.Bool)

pub sort_is : (at : ℕ) → sort_of (expr.Column at kind.Bool) ≡ Of kind.Bool
sort_is at = ap sort_of (sym (rolls-Column at kind.Bool)) ∙ fold-roll-Expr Sort (Sort × Sort) sort_at kinds.arm_at (form.Column at kind.Bool)

abbrev pub two_kinds : List Kind
two_kinds = kind.Bool ∷ kind.Bool ∷ []

pub a_kind : kind_over two_kinds a_is ≡ Some kind.Bool
a_kind = λ i. if reads_is two_kinds 0 i then kind_in (sort_is 0 i) else None

pub b_kind : kind_over two_kinds b_is ≡ Some kind.Bool
b_kind = λ i. if reads_is two_kinds 1 i then kind_in (sort_is 1 i) else None

pub both_kinds : kinds_over two_kinds (a_is ∷ b_is ∷ []) ≡ Some two_kinds
both_kinds = λ i. all_there (a_kind i ∷ b_kind i ∷ [])

-- ---- one row

projected_is : (r : Row) → projected (a_is ∷ b_is ∷ []) r ≡ Ok (slice_index_or r 0 Null ∷ slice_index_or r 1 Null ∷ [])
projected_is r = λ i. and_then (λ value. and_then (λ values. Ok (value ∷ values)) (and_then (λ other. and_then (λ values. Ok (other ∷ values)) (Ok [])) (val_at 1 r i))) (val_at 0 r i)

bronze_keeps : (a b : Bool) → judged from_files [] (row a b) ≡ Keeps (row a b)
bronze_keeps a b = ap (by_outputs []) (projected_is (row a b))

takes_is : (a b : Bool) → takes (Some a_is) (row a b) ≡ Ok a
takes_is a b = λ i. and_then (λ value. Ok (is_true value)) (val_at 0 (row a b) i)

admit_by : (a b : Bool) → admit (must_be_b ∷ []) (row a b) ≡ unwrap_or (option_or (objection_of FailUpdate (codes "b is true") (Ok (slice_index_or (row a b) 1 Null))) None) (Ok Keep)
admit_by a b = λ i. unwrap_or (option_or (objection_of FailUpdate (codes "b is true") (val_at 1 (row a b) i)) None) (Ok Keep)

abbrev must : List Expectation
must = must_be_b ∷ []

silver_passes_over : (b : Bool) → judged from_bronze must (row false b) ≡ PassedOver
silver_passes_over b = ap (by_where from_bronze must (row false b)) (takes_is false b)

silver_keeps : judged from_bronze must (row true true) ≡ Keeps (row true true)
silver_keeps = ap (by_where from_bronze must (row true true)) (takes_is true true) ∙ ap (by_outputs must) (projected_is (row true true)) ∙ ap (by_verdict (row true true)) (admit_by true true)

silver_stops : judged from_bronze must (row true false) ≡ Stops (Fails (codes "b is true"))
silver_stops = ap (by_where from_bronze must (row true false)) (takes_is true false) ∙ ap (by_outputs must) (projected_is (row true false)) ∙ ap (by_verdict (row true false)) (admit_by true false)

-- ---- the rows of the flows

pub two_out : append_out from_files [] (row false true ∷ row true true ∷ []) ≡ row false true ∷ row true true ∷ []
two_out = λ i. cons_option (kept_of (bronze_keeps false true i)) (cons_option (kept_of (bronze_keeps true true i)) [])

pub two_run : append_stop from_files [] (row false true ∷ row true true ∷ []) ≡ None
two_run = λ i. option_or (option_map (stop_at (Number 1)) (cause_of (bronze_keeps false true i))) (option_or (option_map (stop_at (Number 2)) (cause_of (bronze_keeps true true i))) None)

pub three_out : append_out from_files [] (row false true ∷ row true true ∷ row true false ∷ []) ≡ row false true ∷ row true true ∷ row true false ∷ []
three_out = λ i. cons_option (kept_of (bronze_keeps false true i)) (cons_option (kept_of (bronze_keeps true true i)) (cons_option (kept_of (bronze_keeps true false i)) []))

pub three_run : append_stop from_files [] (row false true ∷ row true true ∷ row true false ∷ []) ≡ None
three_run = λ i. option_or (option_map (stop_at (Number 1)) (cause_of (bronze_keeps false true i))) (option_or (option_map (stop_at (Number 2)) (cause_of (bronze_keeps true true i))) (option_or (option_map (stop_at (Number 3)) (cause_of (bronze_keeps true false i))) None))

pub silver_out : append_out from_bronze must (row false true ∷ row true true ∷ []) ≡ row true true ∷ []
silver_out = λ i. cons_option (kept_of (silver_passes_over true i)) (cons_option (kept_of (silver_keeps i)) [])

pub silver_seen : append_seen from_bronze must (row false true ∷ row true true ∷ []) ≡ row true true ∷ []
silver_seen = λ i. cons_option (seen_of (silver_passes_over true i)) (cons_option (seen_of (silver_keeps i)) [])

pub silver_runs : append_stop from_bronze must (row false true ∷ row true true ∷ []) ≡ None
silver_runs = λ i. option_or (option_map (stop_at (Number 1)) (cause_of (silver_passes_over true i))) (option_or (option_map (stop_at (Number 2)) (cause_of (silver_keeps i))) None)

pub silver_counts : counts must (row true true ∷ []) ≡ tally 1 0 ∷ []
silver_counts = λ i. tally (count_by (λ r. is_pass (val_at 1 r i)) (row true true ∷ [])) (count_by (λ r. not (is_pass (val_at 1 r i))) (row true true ∷ [])) ∷ []

pub third_stops : append_stop from_bronze must (row true false ∷ []) ≡ Some (stop.Expect (Number 1) (codes "b is true"))
third_stops = λ i. option_or (option_map (stop_at (Number 1)) (cause_of (silver_stops i))) None

-- ---- the view

read_is : (r : Row) → read_all from_silver.items r ≡ Ok (slice_index_or r 0 Null ∷ slice_index_or r 1 Null ∷ [])
read_is r = λ i. and_then (λ value. and_then (λ values. Ok (value ∷ values)) (and_then (λ other. and_then (λ values. Ok (other ∷ values)) (Ok [])) (val_at 1 r i))) (val_at 0 r i)

abbrev in_one : Row → Share
in_one values = record { group = []; values = values }

share_is : share from_silver (row true true) ≡ Ok (Some (in_one (row true true)))
share_is = λ i. and_then (λ values. Ok (Some (in_one values))) (read_is (row true true) i)

ask_is : ask from_silver (row true true ∷ []) ≡ Ok (row true true ∷ [])
ask_is = λ i. unless (option_or (first_of (cons_option (fault_stop (row true true) (share_is i)) [])) None) (in_row_order (map (λ s. s.values) (cons_option (shared (share_is i)) [])))

abbrev pub one_row : Viewed
one_row = record { rows = row true true ∷ []; counts = [] }

pub shown_is : viewed from_silver [] (row true true ∷ []) ≡ Ok one_row
shown_is = ap (and_then (judged_view [])) ask_is
