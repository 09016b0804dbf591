use Rattle.std.proofs.Common.{◌+◌, subst, sym}
use Rattle.view_groups.proofs.GroupLemmas.{Begins, begins_more}
use Rattle.view_groups.proofs.group.new_cells.Goals as goal

pub loop-item-preserved : goal.loop-item-preserved
loop-item-preserved c = subst (λ cells. Begins c.args.items.now cells (c.loop-item.item-index + 1)) (sym c.in_ok-push.ensures.items)
    (begins_more c.args.items.now c.loop-item.cells.items c.loop-item.item-index c.new.result c.item-item.result c.loop-item.invariant c.loop-item-test.true c.item-item.is c.new.ensures)
