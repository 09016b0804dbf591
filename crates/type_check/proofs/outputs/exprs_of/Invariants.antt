use Rattle.std.proofs.Common.{◌≡◌, take}
use Rattle.type_check.specs.Outputs.{exprs_of}
use Rattle.type_check.proofs.outputs.exprs_of.Given as goal

-- the expressions of the outputs so far
abbrev pub invariant-loop-each : goal.invariant-loop-each
invariant-loop-each l = l.exprs ≡ exprs_of (take l.each-index l.outputs)
