-- What a group keeps depends on the bag of its members alone.
use Rattle.std.proofs.Common.{ℕ, List, ap, ◌∙◌}
use Rattle.std.specs.List.{slice_index_or}
use Rattle.value_core.specs.declared.value.Value.{Value}
use Rattle.plan_core.specs.declared.query.Item.{Item}
use Rattle.plan_core.specs.declared.query.Item.TheVariants as item
use Rattle.flow_model.specs.Views.{Share, known_values}
use Rattle.view_laws.specs.Weights.{IsOneBag}
use Rattle.view_laws.proofs.ViewLemmas.{bag-length, known_bag, total_bag}
use Rattle.view_groups.specs.declared.cell.Cell.{Cell}
use Rattle.view_groups.specs.declared.cell.Cell.TheVariants as cell
use Rattle.view_groups.specs.declared.group.Group.{Group}
use Rattle.view_groups.specs.Counted.{above_zero, CountsValues}
use Rattle.view_groups.specs.Cells.{KeepsCell}
use Rattle.view_groups.specs.Groups.{KeepsGroup}

counts-bag : (entries : List (Value × ℕ)) (xs ys : List Value) → IsOneBag xs ys → CountsValues entries xs → CountsValues entries ys
counts-bag entries xs ys bag counts = record { at = λ v. counts.at v ∙ ap above_zero (bag.sums _) }

cell-bag : (it : Item) (kept : Cell) (xs ys : List Value) → IsOneBag xs ys → KeepsCell it kept xs → KeepsCell it kept ys
cell-bag (item.Key at) (cell.Key place) xs ys bag k = k
cell-bag (item.Plain e) cell.Nothing xs ys bag k = k
cell-bag item.CountAll cell.Rows xs ys bag k = k
cell-bag (item.Count e) (cell.Known known) xs ys bag k = k ∙ bag-length xs ys bag
cell-bag (item.Sum e) (cell.Total sum) xs ys bag k = (k.0 ∙ bag-length xs ys bag, k.1 ∙ total_bag xs ys bag)
cell-bag (item.Min e) (cell.Least values) xs ys bag k = counts-bag values.times.entries xs ys bag k
cell-bag (item.Max e) (cell.Greatest values) xs ys bag k = counts-bag values.times.entries xs ys bag k
cell-bag other kept xs ys bag k = absurd k

pub keeps_bag : (items : List Item) (group : Group) (xs ys : List Share) → IsOneBag xs ys → KeepsGroup items group xs → KeepsGroup items group ys
keeps_bag items group xs ys bag keeps = record {
  rows = keeps.rows ∙ bag-length xs ys bag;
  cells = record { long = keeps.cells.long; each = λ at it kept k. cell-bag (slice_index_or items at it) (slice_index_or group.cells.items at kept) (known_values at xs) (known_values at ys) (known_bag at xs ys bag) (keeps.cells.each at it kept k) };
}
