use Rattle.std.proofs.Common.{◌≡◌, false, sym, is_gt}
use Rattle.value_core.specs.Order.{row_order}
use Rattle.value_core.proofs.WalkLemmas.{order_from}
use Rattle.value_core.proofs.row.Rows.is_in_order.Goals as goal

pub loop-first-preserved-else-is_gt : goal.loop-first-preserved-else-is_gt
loop-first-preserved-else-is_gt c =
    let up : is_gt (row_order c.in-Some.first.now c.in-Some-first.next.now) ≡ false = rw (← c.cmp.ensures) (sym c.if-is_gt.ensures) in
    order_from c.loop-first.rest.now c.in-Some.first.now c.in-Some-first.next.now c.in-Some.more.now c.in-Some.ensures.cases.0 c.in-Some-first.ensures.value up c.loop-first.invariant
