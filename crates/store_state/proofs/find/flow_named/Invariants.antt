use Rattle.std.proofs.Common.{◌≡◌, drop}
use Rattle.std.specs.Prelude.{find}
use Rattle.store_state.specs.Dataset.{is_flow}
use Rattle.store_state.proofs.find.flow_named.Given as goal

abbrev pub invariant-loop-flow : goal.invariant-loop-flow
invariant-loop-flow l = find (is_flow l.name) (drop l.flow-index l.flows) ≡ find (is_flow l.name) l.flows
