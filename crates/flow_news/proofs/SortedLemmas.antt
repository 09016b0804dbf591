-- Rows in row order are so as they stand.
use Rattle.std.proofs.Common.{◌≡◌, List, [], ◌∷◌, refl, ap, ◌∙◌}
use Rattle.value_core.specs.Bags.{IsInOrder, IsLeast, in_row_order, placed}
use Rattle.value_core.specs.Order.{Row}

stays_first : (row : Row) (rows : List Row) → IsLeast row rows → placed row rows ≡ row ∷ rows
stays_first row [] least = refl
stays_first row (next ∷ rows) least = rw least.0 refl

pub stays : (rows : List Row) → IsInOrder rows → in_row_order rows ≡ rows
stays [] order = refl
stays (row ∷ rows) order = ap (placed row) (stays rows order.1) ∙ stays_first row rows order.0
