use Rattle.std.proofs.Common.{◌≡◌, length}
use Rattle.type_check.specs.Outputs.{first_difference}
use Rattle.type_check.proofs.names.first_difference.Given as goal

-- the columns that are left differ where all do
abbrev pub invariant-loop-wanted : goal.invariant-loop-wanted
invariant-loop-wanted l = first_difference l.declared l.table ≡ first_difference l.fn.declared l.fn.table

abbrev pub decreases-loop-wanted : goal.decreases-loop-wanted
decreases-loop-wanted l = length l.declared
