use Rattle.std.proofs.Common.{◌≡◌, map, take}
use Rattle.state_steps.specs.Parts.{stored_flow}
use Rattle.plan_definitions.proofs.parts.append_flows.Given as goal

abbrev pub invariant-loop-flow : goal.invariant-loop-flow
invariant-loop-flow l = l.stored ≡ map stored_flow (take l.flow-index l.flows)
