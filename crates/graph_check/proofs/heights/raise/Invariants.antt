use Rattle.graph_check.proofs.RoundLemmas.{IsRaising}
use Rattle.graph_check.proofs.heights.raise.Given as goal

abbrev pub invariant-loop-edge : goal.invariant-loop-edge
invariant-loop-edge l = IsRaising l.count l.edges l.round l.edge-index l.heights
