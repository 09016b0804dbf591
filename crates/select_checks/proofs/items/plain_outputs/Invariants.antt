use Rattle.std.proofs.Common.{◌≡◌, map}
use Rattle.select_checks.specs.Views.{plain_output}
use Rattle.select_checks.proofs.items.plain_outputs.Given as goal

-- the outputs so far
abbrev pub invariant-loop-output : goal.invariant-loop-output
invariant-loop-output l = l.made ≡ map plain_output l.yielded
