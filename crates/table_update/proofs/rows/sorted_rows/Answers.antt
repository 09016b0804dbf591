use Rattle.value_core.proofs.BagLemmas.{order-in_row_order}
use Rattle.table_update.proofs.rows.sorted_rows.Goals as goal

pub returns-clause-order : goal.returns-clause-order
returns-clause-order c = rw (c.from_vec.ensures, c.sort.ensures.rows) (order-in_row_order c.in_ok-rows.rows.items)
