use Rattle.std.proofs.Common.{◌≡◌, take}
use Rattle.table_update.specs.Table.{selected}
use Rattle.table_update.proofs.rows.selection.Given as goal

abbrev pub invariant-loop-output : goal.invariant-loop-output
invariant-loop-output l = l.values ≡ selected (take l.output-index l.outputs) l.row
