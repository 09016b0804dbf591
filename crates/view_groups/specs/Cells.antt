-- What a group keeps for an item.
use Rattle.std.specs.Prelude.{◌≡◌, ⊤, ℕ, zero, suc, ◌≢◌, true, false, ℤ, List, ◌∷◌, length, not, if◌then◌else◌, Some, None, Result, Ok, Err}
use Rattle.value_core.specs.declared.value.Value.{Value}
use Rattle.value_core.specs.declared.value.Value.TheVariants.{Null, Big}
use Rattle.value_core.specs.Fits.{is_big}
use Rattle.value_core.specs.Order.{Row, is_null}
use Rattle.plan_core.specs.declared.query.Item.{Item}
use Rattle.plan_core.specs.declared.query.Item.TheVariants as item
use Rattle.plan_core.specs.declared.stop.Stop.TheVariants.{SumOverflow}
use Rattle.flow_model.specs.Views.{total, item_value, sum_stop}
use Rattle.view_groups.specs.Counted.{CountsValues}
use Rattle.view_groups.specs.declared.cell.Cell.{Cell}
use Rattle.view_groups.specs.declared.cell.Cell.TheVariants as cell
use Rattle.view_groups.specs.declared.cell.GroupEnd.{GroupEnd}
use Rattle.view_groups.specs.declared.cell.GroupEnd.TheVariants as end

-- a cell is what an item keeps of these values, of which none is NULL
abbrev pub KeepsCell : Item → Cell → List Value → Type 0
KeepsCell (item.Key at) (cell.Key place) values = place ≡ at
KeepsCell (item.Plain e) cell.Nothing values = ⊤
KeepsCell item.CountAll cell.Rows values = ⊤
KeepsCell (item.Count e) (cell.Known known) values = known ≡ length values
KeepsCell (item.Sum e) (cell.Total sum) values = (sum.known ≡ length values) × (sum.total ≡ total values)
KeepsCell (item.Min e) (cell.Least bag) values = CountsValues bag.times.entries values
KeepsCell (item.Max e) (cell.Greatest bag) values = CountsValues bag.times.entries values
KeepsCell other kept values = ⊥

-- the values that aren't NULL, with one more
abbrev pub known_with : Value → List Value → List Value
known_with value values = if not (is_null value) then value ∷ values else values

-- one cell is the other with a value more
pub record AddsValue (value : Value) (old new : Cell) : Type 0 where
  pub keeps : (it : Item) (values : List Value) → KeepsCell it old values → KeepsCell it new (known_with value values)

-- one cell is the other without a value that it has
pub record TakesValue (value : Value) (old new : Cell) : Type 0 where
  pub keeps : (it : Item) (values : List Value) → KeepsCell it old (known_with value values) → KeepsCell it new values

-- what a cell answers for an item of a group: its value, or the exact total that is no BIGINT
abbrev pub CellAnswers : Row → ℕ → Cell → Result Value GroupEnd → Type 0
CellAnswers group number kept (Ok value) = (it : Item) (values : List Value) → KeepsCell it kept values → (value ≡ item_value it group number values) × (sum_stop group it (total values) ≡ None)
CellAnswers group number kept (Err (end.NoBig sum)) = (it : Item) (values : List Value) → KeepsCell it kept values → sum_stop group it (total values) ≡ Some (SumOverflow group sum)
CellAnswers group number kept (Err end.Memory) = ⊤

-- a total as a BIGINT, or NULL of no value
abbrev pub SumAnswers : ℕ → ℤ → Result Value GroupEnd → Type 0
SumAnswers zero sum (Ok value) = value ≡ Null
SumAnswers (suc known) sum (Ok value) = (value ≡ Big sum) × (is_big sum ≡ true)
SumAnswers known sum (Err (end.NoBig outside)) = (known ≢ 0) × (outside ≡ sum) × (is_big sum ≡ false)
SumAnswers known sum (Err end.Memory) = ⊥
