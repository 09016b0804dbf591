use Rattle.std.proofs.Common.{◌≡◌, length}
use Rattle.file_options.specs.Schemas.{are_distinct}
use Rattle.file_options.proofs.schema.are_distinct.Given as goal

-- all are distinct where those that are left are
abbrev pub invariant-loop-first : goal.invariant-loop-first
invariant-loop-first l = are_distinct l.left ≡ are_distinct l.fn.columns

abbrev pub decreases-loop-first : goal.decreases-loop-first
decreases-loop-first l = length l.left
