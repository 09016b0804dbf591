use Rattle.std.proofs.Common.{◌≡◌, ◌++◌, drop}
use Rattle.select_checks.specs.Outputs.{columns_left}
use Rattle.select_checks.proofs.outputs.add_left.Given as goal

-- the columns so far, and those that are left
abbrev pub invariant-loop-place : goal.invariant-loop-place
invariant-loop-place l = l.outputs ++ columns_left l.except l.place (drop l.place l.source) ≡ l.initial.outputs ++ columns_left l.except 0 l.source
