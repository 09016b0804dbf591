use Rattle.std.proofs.Common.{◌≡◌, take}
use Rattle.select_checks.specs.Outputs.{select_outputs}
use Rattle.select_checks.proofs.outputs.select_outputs.Given as goal

-- what the outputs so far give
abbrev pub invariant-loop-given : goal.invariant-loop-given
invariant-loop-given l = l.outputs ≡ select_outputs l.source (take l.given-index l.outs)
