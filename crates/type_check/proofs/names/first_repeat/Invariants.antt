use Rattle.std.proofs.Common.{◌≡◌, take, drop}
use Rattle.type_check.specs.Outputs.{repeat_behind, first_repeat}
use Rattle.type_check.proofs.names.first_repeat.Given as goal

-- the first among the columns that are left is the first of all
abbrev pub invariant-loop-at : goal.invariant-loop-at
invariant-loop-at l = repeat_behind (take l.at l.columns) (drop l.at l.columns) ≡ first_repeat l.columns
