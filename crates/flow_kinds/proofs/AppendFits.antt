-- What an append flow gives fits the columns that it fills.
use Rattle.std.proofs.Common.{◌≡◌, List, [], ◌∷◌, map, Bool, true, false, Some, None, Result, Ok, Err, refl, sym, ap, subst, if◌then◌else◌}
use Rattle.std.proofs.lemmas.Bool.{and_from}
use Rattle.value_core.specs.declared.value.Kind.{Kind}
use Rattle.value_core.specs.declared.value.Value.{Value}
use Rattle.value_core.specs.Fits.{row_fits, value_fits}
use Rattle.value_core.specs.Order.{Row}
use Rattle.row_expr.specs.declared.expr.Expr.{Expr}
use Rattle.row_expr.specs.Columns.{reads_within}
use Rattle.row_expr.specs.Eval.{Fault, Outcome, and_then, val}
use Rattle.row_expr.specs.Kinds.{kind_in, sort_of}
use Rattle.row_expr.proofs.Typed.{fits_kind}
use Rattle.plan_core.specs.declared.expectation.Expectation.{Expectation}
use Rattle.plan_core.specs.declared.expectation.Verdict.{Verdict}
use Rattle.plan_core.specs.declared.expectation.Verdict.TheVariants.{Keep, DropIt, Fail}
use Rattle.plan_core.specs.declared.flow.AppendFlow.{AppendFlow}
use Rattle.plan_core.specs.Sound.{IsSoundAppend, kind_over, kinds_over}
use Rattle.flow_model.specs.Admission.{admit}
use Rattle.flow_model.specs.Append.{append_out, by_outputs, by_verdict, by_where, judged, kept_of, projected, takes}
use Rattle.flow_kinds.specs.EventKinds.{all_fit}
use Rattle.flow_kinds.proofs.FitTools.{all_picked, first_there, ok_is, some_is}

-- an expression that has a kind gives a value of it
pub kind_given : (source : List Kind) (row : Row) (e : Expr) (k : Kind) (value : Value) → row_fits source row ≡ true → kind_over source e ≡ Some k → val e row ≡ Ok value → value_fits k value ≡ true
kind_given source row e k value fits is gives = by (reads_within source e) refl is
  where
    by : (b : Bool) → reads_within source e ≡ b → (if b then kind_in (sort_of e) else None) ≡ Some k → value_fits k value ≡ true
    by true reads kind = fits_kind source row e k value fits reads kind gives
    by false reads kind = cc

-- a value before others
pub record Pair (v : Outcome) (r : Result Row Fault) (out : Row) : Type 0 where
  pub value : Value
  pub values : Row
  pub gives : v ≡ Ok value
  pub give : r ≡ Ok values
  pub is : value ∷ values ≡ out

pub pair_of : (v : Outcome) (r : Result Row Fault) (out : Row) → and_then (λ value. and_then (λ values. Ok (value ∷ values)) r) v ≡ Ok out → Pair v r out
pair_of (Err fault) r out e = cc
pair_of (Ok value) (Err fault) out e = cc
pair_of (Ok value) (Ok values) out e = record {
  value = value;
  values = values;
  gives = refl;
  give = refl;
  is = ok_is {E = Fault} (value ∷ values) out (Ok out) (sym e) refl;
}

pub projected_fits : (source : List Kind) (row : Row) → row_fits source row ≡ true → (outputs : List Expr) (target : List Kind) (out : Row) → kinds_over source outputs ≡ Some target → projected outputs row ≡ Ok out → row_fits target out ≡ true
projected_fits source row fits [] target out are gives =
    let no_kinds : [] ≡ target = some_is [] target are in
    let no_values : [] ≡ out = ok_is {E = Fault} [] out (Ok out) (sym gives) refl in
    subst (λ ks. row_fits ks out ≡ true) no_kinds (subst (λ r. row_fits [] r ≡ true) no_values refl)
projected_fits source row fits (e ∷ es) target out are gives =
    let f = first_there (kind_over source e) (map (kind_over source) es) target are in
    let p = pair_of (val e row) (projected es row) out gives in
    let here : value_fits f.item p.value ≡ true = kind_given source row e f.item p.value fits f.is_item p.gives in
    let behind : row_fits f.others p.values ≡ true = projected_fits source row fits es f.others p.values f.are_others p.give in
    subst (λ ks. row_fits ks out ≡ true) f.is_all (subst (λ r. row_fits (f.item ∷ f.others) r ≡ true) p.is (and_from (value_fits f.item p.value) (row_fits f.others p.values) here behind))

-- ---- a row that is kept

kept_verdict : (o out : Row) (v : Result Verdict Fault) → kept_of (by_verdict o v) ≡ Some out → o ≡ out
kept_verdict o out (Err fault) e = cc
kept_verdict o out (Ok (Fail name)) e = cc
kept_verdict o out (Ok DropIt) e = cc
kept_verdict o out (Ok Keep) e = some_is o out e

kept_outputs : (xs : List Expectation) (out : Row) (r : Result Row Fault) → kept_of (by_outputs xs r) ≡ Some out → r ≡ Ok out
kept_outputs xs out (Err fault) e = cc
kept_outputs xs out (Ok o) e = ap (λ w. Ok w) (kept_verdict o out (admit xs o) e)

kept_where : (flow : AppendFlow) (xs : List Expectation) (row out : Row) (t : Result Bool Fault) → kept_of (by_where flow xs row t) ≡ Some out → projected flow.outputs row ≡ Ok out
kept_where flow xs row out (Err fault) e = cc
kept_where flow xs row out (Ok false) e = cc
kept_where flow xs row out (Ok true) e = kept_outputs xs out (projected flow.outputs row) e

pub append_fits : (source target : List Kind) (flow : AppendFlow) (xs : List Expectation) (rows : List Row) → IsSoundAppend source target flow → all_fit source rows ≡ true → all_fit target (append_out flow xs rows) ≡ true
append_fits source target flow xs rows sound fit =
    all_picked (row_fits target) (row_fits source) (λ row. kept_of (judged flow xs row))
    (λ row fits out e. projected_fits source row fits flow.outputs target out sound.outputs (kept_where flow xs row out (takes flow.filter row) e)) rows fit
