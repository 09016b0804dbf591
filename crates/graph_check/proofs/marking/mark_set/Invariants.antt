use Rattle.graph_check.proofs.MarkLemmas.{IsMarkingSet}
use Rattle.graph_check.proofs.marking.mark_set.Given as goal

abbrev pub invariant-loop-node : goal.invariant-loop-node
invariant-loop-node l = IsMarkingSet l.count l.set l.node-index l.marks.items
