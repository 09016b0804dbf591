use Rattle.std.proofs.Common.{◌≡◌, ◌++◌, true, drop}
use Rattle.landing_history.specs.Taken.{with_heads}
use Rattle.store_state.specs.Follows.{all_fit}
use Rattle.table_update.specs.Table.{columns_of, rows_of}
use Rattle.table_update.proofs.rows.rows_in_order.Given as goal

abbrev pub invariant-loop-line : goal.invariant-loop-line
invariant-loop-line l = record {
  so_far : l.rows.items ++ rows_of l.table (with_heads l.heads (drop l.line-index l.lines)) ≡ rows_of l.table (with_heads l.heads l.lines);
  fit : all_fit (columns_of l.table.outputs) l.rows.items ≡ true;
}
