use Rattle.std.proofs.Common.{◌+◌, length, subst, sym, ap, arith, rules}
use Rattle.view_groups.proofs.GroupLemmas.{RowsSoFar, stepped_row, whole_row, failed_row}
use Rattle.view_groups.proofs.group.Group.row.Goals as goal

pub returns-in-Err : goal.returns-in-Err
returns-in-Err c = failed_row c.args.key.now c.args.self.now c.loop-cell.row c.loop-cell.cell-index c.cell-item.result c.in-Err.end c.loop-cell.invariant
    (omega (arith, ap length c.as_slice-cell-items.ensures.value)) (search rules) c.in-Err.ensures

pub loop-cell-preserved : goal.loop-cell-preserved
loop-cell-preserved c = subst (λ row. RowsSoFar c.args.key.now c.args.self.now row (c.loop-cell.cell-index + 1)) (sym c.in_ok-push-in-Ok.ensures.ok)
    (stepped_row c.args.key.now c.args.self.now c.loop-cell.row c.loop-cell.cell-index c.cell-item.result c.in-Ok.value c.loop-cell.invariant (omega (arith, ap length c.as_slice-cell-items.ensures.value)) (search rules) c.in-Ok.ensures)

pub returns : goal.returns
returns c = λ items members keeps. whole_row c.args.key.now c.args.self.now c.loop-cell.row c.loop-cell.cell-index c.loop-cell.invariant (omega (arith, ap length c.as_slice-cell-items.ensures.value)) items members keeps
    (omega (arith, c.loop-cell.auto.cell-index-end, ap length c.as_slice-cell-items.ensures.value))
