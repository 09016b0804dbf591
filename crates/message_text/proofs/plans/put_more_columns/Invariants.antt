use Rattle.std.proofs.Common.{◌≡◌, ◌++◌, take}
use Rattle.message_text.specs.PlanLines.{more_columns}
use Rattle.message_text.proofs.plans.put_more_columns.Given as goal

abbrev pub invariant-loop-column : goal.invariant-loop-column
invariant-loop-column l = l.out.items ≡ l.initial.out.items ++ more_columns (take l.column-index l.columns)
