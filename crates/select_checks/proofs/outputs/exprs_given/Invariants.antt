use Rattle.std.proofs.Common.{◌≡◌}
use Rattle.select_checks.specs.Outputs.{exprs_given}
use Rattle.select_checks.proofs.outputs.exprs_given.Given as goal

-- the expressions so far
abbrev pub invariant-loop-output : goal.invariant-loop-output
invariant-loop-output l = l.exprs ≡ exprs_given l.yielded
