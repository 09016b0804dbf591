use Rattle.std.proofs.Common.{◌≡◌, take}
use Rattle.select_checks.specs.Views.{item_columns}
use Rattle.select_checks.proofs.items.item_columns.Given as goal

-- the columns so far
abbrev pub invariant-loop-output : goal.invariant-loop-output
invariant-loop-output l = l.columns ≡ item_columns (take l.output-index l.outputs)
