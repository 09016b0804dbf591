use Rattle.std.proofs.Common.{◌≡◌, take}
use Rattle.update_plan.proofs.copies.copy_of_expectations.Given as goal

-- those so far
abbrev pub invariant-loop-expectation : goal.invariant-loop-expectation
invariant-loop-expectation l = l.copy ≡ take l.expectation-index l.expectations
