use Rattle.std.proofs.Common.{◌≡◌, take}
use Rattle.store_folding.proofs.copies.copy_expectations.Given as goal

abbrev pub invariant-loop-expectation : goal.invariant-loop-expectation
invariant-loop-expectation l = l.copies ≡ take l.expectation-index l.expectations
