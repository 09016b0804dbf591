use Rattle.std.proofs.Common.{◌≡◌, ◌++◌, length, map, drop}
use Rattle.std.specs.Prelude.{filter_map}
use Rattle.graph_check.specs.Graphs.{AreWithin}
use Rattle.stream_closure.specs.Streams.{edge_of}
use Rattle.update_plan.proofs.edges.put_flows.Given as goal

-- the edges so far and those of the flows that are left are all
abbrev pub invariant-loop-flow : goal.invariant-loop-flow
invariant-loop-flow l = record {
  edges : l.edges.items ++ filter_map (edge_of l.plan l.reader) (map (λ flow. flow.origin) (drop l.flow-index l.flows)) ≡ l.initial.edges.items ++ filter_map (edge_of l.plan l.reader) (map (λ flow. flow.origin) l.flows);
  within : AreWithin (length l.plan) l.edges.items;
}
