use Rattle.std.proofs.Common.{◌≡◌, take}
use Rattle.table_update.specs.Table.{columns_of}
use Rattle.table_update.proofs.table.AppendTable.columns.Given as goal

abbrev pub invariant-loop-output : goal.invariant-loop-output
invariant-loop-output l = l.columns ≡ columns_of (take l.output-index l.self.outputs)
