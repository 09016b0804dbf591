-- A cell before and after a value comes or goes.
use Rattle.std.proofs.Common.{◌≡◌, ℤ, pos, ◌+◌, ◌-◌, ◌+ℤ◌, ◌-ℤ◌, Bool, false, not, if◌then◌else◌, List, [], ◌∷◌, Result, Ok, Err, length, refl, ap, ◌∙◌, arith}
use Rattle.std.specs.Prelude.{OnOk}
use Rattle.std.specs.List.{fold}
use Rattle.std.proofs.lemmas.Int.{ints}
use Rattle.value_core.specs.declared.value.Value.{Value}
use Rattle.value_core.specs.Order.{is_null}
use Rattle.row_expr.specs.Eval.{number_of}
use Rattle.plan_core.specs.declared.query.Item.{Item}
use Rattle.plan_core.specs.declared.query.Item.TheVariants as item
use Rattle.flow_model.specs.Views.{total}
use Rattle.view_groups.specs.declared.cell.Sum.{Sum}
use Rattle.view_groups.specs.declared.cell.Cell.TheVariants as cell
use Rattle.view_groups.specs.Cells.{KeepsCell, known_with, AddsValue, TakesValue}

pub both_ok : {A E : Type 0} {P Q R : Type 0} (r : Result A E) → OnOk r P → OnOk r Q → (P → Q → R) → OnOk r R
both_ok (Ok a) p q step = step p q
both_ok (Err e) p q step = p

pub total_from : (z : ℤ) (vs : List Value) → fold (λ sum value. sum +ℤ number_of value) z vs ≡ total vs +ℤ z
total_from z [] = omega (arith, ints)
total_from z (v ∷ vs) = omega (arith, ints, total_from (z +ℤ number_of v) vs, total_from (pos 0 +ℤ number_of v) vs)

pub total_cons : (v : Value) (vs : List Value) → total (v ∷ vs) ≡ total vs +ℤ number_of v
total_cons v vs = omega (arith, ints, total_from (pos 0 +ℤ number_of v) vs)

pub total_more : (value : Value) (old new : Sum) → is_null value ≡ false → new.known ≡ old.known + 1 → new.total ≡ old.total +ℤ number_of value → AddsValue value (cell.Total old) (cell.Total new)
total_more value old new here known sum = record { keeps = keeps }
  where
    keeps : (it : Item) (values : List Value) → KeepsCell it (cell.Total old) values → KeepsCell it (cell.Total new) (known_with value values)
    keeps (item.Sum e) values h = rw here (omega (arith, known, h.0), omega (arith, ints, sum, h.1, total_cons value values))
    keeps other values h = absurd h

pub total_less : (value : Value) (old new : Sum) → is_null value ≡ false → new.known ≡ old.known - 1 → new.total ≡ old.total -ℤ number_of value → TakesValue value (cell.Total old) (cell.Total new)
total_less value old new here known sum = record { keeps = keeps }
  where
    shown : {test : Bool} → test ≡ false → (values : List Value) → (if not test then value ∷ values else values) ≡ value ∷ values
    shown e values = rw e refl

    keeps : (it : Item) (values : List Value) → KeepsCell it (cell.Total old) (known_with value values) → KeepsCell it (cell.Total new) values
    keeps (item.Sum e) values h =
        let k : old.known ≡ length (value ∷ values) = h.0 ∙ ap length (shown here values) in
        let t : old.total ≡ total (value ∷ values) = h.1 ∙ ap total (shown here values) in
        (omega (arith, known, k), omega (arith, ints, sum, t, total_cons value values))
    keeps other values h = absurd h
