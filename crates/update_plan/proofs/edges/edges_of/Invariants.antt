use Rattle.std.proofs.Common.{◌≡◌, ◌++◌, drop, length}
use Rattle.graph_check.specs.Graphs.{AreWithin}
use Rattle.stream_closure.specs.Streams.{edges_from, edges_of}
use Rattle.update_plan.proofs.edges.edges_of.Given as goal

-- the edges so far and those of the datasets that are left are all
abbrev pub invariant-loop-place : goal.invariant-loop-place
invariant-loop-place l = record {
  edges : l.edges.items ++ edges_from l.plan l.place (drop l.place l.plan) ≡ edges_of l.plan;
  within : AreWithin (length l.plan) l.edges.items;
}
