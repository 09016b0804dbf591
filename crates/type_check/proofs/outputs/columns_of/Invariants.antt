use Rattle.std.proofs.Common.{◌≡◌, take}
use Rattle.type_check.specs.Outputs.{columns_of}
use Rattle.type_check.proofs.outputs.columns_of.Given as goal

-- the columns of the outputs so far
abbrev pub invariant-loop-each : goal.invariant-loop-each
invariant-loop-each l = l.columns ≡ columns_of (take l.each-index l.outputs)
