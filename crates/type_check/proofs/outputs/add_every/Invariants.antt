use Rattle.std.proofs.Common.{◌≡◌, ◌++◌, drop}
use Rattle.type_check.specs.Outputs.{every_from}
use Rattle.type_check.proofs.outputs.add_every.Given as goal

-- those so far and those that are left are all
abbrev pub invariant-loop-place : goal.invariant-loop-place
invariant-loop-place l = l.outputs ++ every_from l.place (drop l.place l.source) ≡ l.initial.outputs ++ every_from 0 l.source
