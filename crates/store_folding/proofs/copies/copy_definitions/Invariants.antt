use Rattle.std.proofs.Common.{◌≡◌, take}
use Rattle.store_folding.proofs.copies.copy_definitions.Given as goal

abbrev pub invariant-loop-definition : goal.invariant-loop-definition
invariant-loop-definition l = l.copies ≡ take l.definition-index l.definitions
