use Rattle.std.proofs.Common.{◌≡◌, drop}
use Rattle.std.specs.Prelude.{find}
use Rattle.state_model.specs.Dataset.{is_flow}
use Rattle.payload_parts.proofs.places.flow_named.Given as goal

-- the flows that are left have the answer
abbrev pub invariant-loop-flow : goal.invariant-loop-flow
invariant-loop-flow l = find (is_flow l.name) (drop l.flow-index l.flows) ≡ find (is_flow l.name) l.flows
