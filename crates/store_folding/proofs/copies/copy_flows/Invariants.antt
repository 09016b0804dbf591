use Rattle.std.proofs.Common.{◌≡◌, take}
use Rattle.store_folding.proofs.copies.copy_flows.Given as goal

abbrev pub invariant-loop-flow : goal.invariant-loop-flow
invariant-loop-flow l = l.copies ≡ take l.flow-index l.flows
