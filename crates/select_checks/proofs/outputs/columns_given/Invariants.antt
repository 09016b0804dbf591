use Rattle.std.proofs.Common.{◌≡◌, take}
use Rattle.select_checks.specs.Outputs.{columns_given}
use Rattle.select_checks.proofs.outputs.columns_given.Given as goal

-- the columns so far
abbrev pub invariant-loop-output : goal.invariant-loop-output
invariant-loop-output l = l.columns ≡ columns_given (take l.output-index l.outputs)
