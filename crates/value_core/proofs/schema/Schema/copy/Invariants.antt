use Rattle.std.proofs.Common.{◌≡◌, take}
use Rattle.value_core.proofs.schema.Schema.copy.Given as goal

-- the columns so far are copied
abbrev pub invariant-loop-column : goal.invariant-loop-column
invariant-loop-column l = l.copy ≡ take l.column-index l.column-items
