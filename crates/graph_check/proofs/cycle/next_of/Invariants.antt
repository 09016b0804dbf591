use Rattle.std.proofs.Common.{take}
use Rattle.graph_check.proofs.CycleLemmas.{HaveLevels}
use Rattle.graph_check.proofs.cycle.next_of.Given as goal

abbrev pub invariant-loop-edge : goal.invariant-loop-edge
invariant-loop-edge l = HaveLevels l.edges l.node (take l.edge-index l.edges)
