-- Rows that are there.
use Rattle.std.proofs.Common.{◌≡◌, ◌↔◌, ◌-◌, Bool, List, [], ◌∷◌, refl, sym, ap, ◌∙◌, arith}
use Rattle.std.specs.Prelude.{IsTrue}
use Rattle.value_core.specs.declared.change.Change.{Change}
use Rattle.value_core.specs.Bags.{count_of, net_change, surplus}
use Rattle.value_core.specs.Changes.{Holds}
use Rattle.value_core.specs.Order.{Row}
use Rattle.value_core.proofs.BagLemmas.{count-cons, count-in_row_order, one-itself}
use Rattle.value_core.proofs.ChangeLemmas.{count-surplus}

-- what is left of the others when the rows are taken out of them has a row as often as it isn't there
count-left : (a : Row) (rows others : List Row) → count_of a (net_change others rows).removed ≡ count_of a others - count_of a rows
count-left a rows others = count-in_row_order a (surplus others rows) ∙ count-surplus a others rows

-- where nothing is left, all are there
none-left : (rows others : List Row) → (net_change others rows).removed ≡ [] → Holds rows others
none-left rows others e a =
    let none : count_of a (net_change others rows).removed ≡ 0 = ap (count_of a) e in
    omega (arith, none, count-left a rows others)

empty : (xs : List Row) → ((a : Row) → count_of a xs ≡ 0) → xs ≡ []
empty [] z = refl
empty (x ∷ xs) z = absurd (let none : ⊥ = omega (arith, z x, count-cons x x xs, one-itself x) in none)

-- where all are there, nothing is left
pub all_there : (rows others : List Row) → Holds rows others → (net_change others rows).removed ≡ []
all_there rows others h = empty (net_change others rows).removed (λ a. omega (arith, count-left a rows others, h a))

-- rows are held exactly where the change from the others to them removes none
pub held_are : (rows others wanted : List Row) (change : Change) (none : Bool) → wanted ≡ others → change ≡ net_change wanted rows → (IsTrue none ↔ (change.removed ≡ [])) → IsTrue none ↔ Holds rows others
held_are rows others wanted change none same net told =
    let removed : change.removed ≡ (net_change others rows).removed = ap (λ c. c.removed) (net ∙ ap (λ w. net_change w rows) same) in
    (λ is. none-left rows others (sym removed ∙ told.0 is), λ h. told.1 (removed ∙ all_there rows others h))
