use Rattle.std.proofs.Common.{◌≡◌, take, flat_map}
use Rattle.type_check.specs.Outputs.{outputs_by}
use Rattle.type_check.proofs.outputs.built.Given as goal

-- what the outputs so far give
abbrev pub invariant-loop-output : goal.invariant-loop-output
invariant-loop-output l = l.outputs ≡ flat_map (outputs_by l.source) (take l.output-index l.outs)
