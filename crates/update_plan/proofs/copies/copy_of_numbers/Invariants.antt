use Rattle.std.proofs.Common.{◌≡◌, take}
use Rattle.update_plan.proofs.copies.copy_of_numbers.Given as goal

-- those so far
abbrev pub invariant-loop-number : goal.invariant-loop-number
invariant-loop-number l = l.copy ≡ take l.number-index l.number-items
