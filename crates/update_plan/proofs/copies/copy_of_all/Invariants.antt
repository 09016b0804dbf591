use Rattle.std.proofs.Common.{◌≡◌, take}
use Rattle.update_plan.proofs.copies.copy_of_all.Given as goal

-- those so far
abbrev pub invariant-loop-definition : goal.invariant-loop-definition
invariant-loop-definition l = l.copy ≡ take l.definition-index l.definitions
