use Rattle.landing_history.specs.Taken.{with_heads}
use Rattle.table_update.specs.Table.{columns_of, rows_of}
use Rattle.table_update.proofs.RowLemmas.{more_fit, rows_more}
use Rattle.table_update.proofs.rows.rows_in_order.Goals as goal

pub loop-line-preserved : goal.loop-line-preserved
loop-line-preserved c = record {
  so_far = rw c.in_ok-push.ensures.items (rows_more c.args.table.now c.args.heads.now c.args.lines.now c.loop-line.line-index c.line-item.result c.loop-line.rows.items (rows_of c.args.table.now (with_heads c.args.heads.now c.args.lines.now)) c.in_ok-row.field-0
      c.loop-line-test.true c.line-item.is c.in_ok-row.ensures.row c.loop-line.invariant.so_far);
  fit = rw c.in_ok-push.ensures.items (more_fit (columns_of c.args.table.now.outputs) c.loop-line.rows.items c.in_ok-row.field-0 c.loop-line.invariant.fit c.in_ok-row.ensures.fits);
}
