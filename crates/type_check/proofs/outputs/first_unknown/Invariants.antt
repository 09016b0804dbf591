use Rattle.std.proofs.Common.{◌≡◌, drop}
use Rattle.type_check.specs.Outputs.{first_unknown}
use Rattle.type_check.proofs.outputs.first_unknown.Given as goal

-- the first among the outputs that are left is the first of all
abbrev pub invariant-loop-output : goal.invariant-loop-output
invariant-loop-output l = first_unknown l.source (drop l.output-index l.outs) ≡ first_unknown l.source l.outs
