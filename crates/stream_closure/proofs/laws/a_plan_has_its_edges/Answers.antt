use Rattle.stream_closure.proofs.EdgeLemmas.{edges_are, edges_within}
use Rattle.stream_closure.proofs.laws.a_plan_has_its_edges.Goals as goal

pub returns : goal.returns
returns c = record { are = edges_are; within = edges_within }
