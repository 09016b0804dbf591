-- How many rows changes have that remove none.
use Rattle.std.proofs.Common.{◌≡◌, ◌+◌, Bool, true, false, if◌then◌else◌, List, [], ◌∷◌, length, refl, ap, ◌∙◌, arith}
use Rattle.std.proofs.lemmas.List.{length-append}
use Rattle.std.proofs.lemmas.List.Sums.{sum_by-cons}
use Rattle.std.specs.Ordering.{is_gt}
use Rattle.value_core.specs.declared.change.Change.{Change}
use Rattle.value_core.specs.Bags.{in_row_order, placed}
use Rattle.value_core.specs.Order.{Row, row_order}
use Rattle.net_changes.specs.Chains.{all_added}
use Rattle.table_versions.specs.Versions.{rows_in}
use Rattle.state_steps.specs.Consumed.{RemoveNone}

placed_by : (row next : Row) (rows : List Row) (above : Bool) → length (placed row rows) ≡ length rows + 1 → length (if above then next ∷ placed row rows else row ∷ next ∷ rows) ≡ length rows + 1 + 1
placed_by row next rows true more = omega (arith, more)
placed_by row next rows false more = omega arith

placed_length : (row : Row) (rows : List Row) → length (placed row rows) ≡ length rows + 1
placed_length row [] = refl
placed_length row (next ∷ rows) = placed_by row next rows (is_gt (row_order row next)) (placed_length row rows) ∙ omega arith

pub sorted_length : (rows : List Row) → length (in_row_order rows) ≡ length rows
sorted_length [] = refl
sorted_length (row ∷ rows) = placed_length row (in_row_order rows) ∙ omega (arith, sorted_length rows)

pub looks_added : (changes : List Change) → RemoveNone changes → rows_in changes ≡ length (all_added changes)
looks_added [] none = refl
looks_added (change ∷ changes) none =
    let gone : length change.removed ≡ 0 = ap length none.0 in
    let all : rows_in (change ∷ changes) ≡ length change.removed + length change.added + rows_in changes = sum_by-cons (λ c. length c.removed + length c.added) change changes in
    let added : length (all_added (change ∷ changes)) ≡ length change.added + length (all_added changes) = length-append change.added (all_added changes) in
    omega (arith, gone, all, added, looks_added changes none.1)
