use Rattle.std.proofs.Common.{◌≡◌, take}
use Rattle.update_plan.proofs.copies.copy_of_flows.Given as goal

-- those so far
abbrev pub invariant-loop-flow : goal.invariant-loop-flow
invariant-loop-flow l = l.copy ≡ take l.flow-index l.flows
