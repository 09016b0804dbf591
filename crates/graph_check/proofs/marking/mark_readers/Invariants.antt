use Rattle.graph_check.proofs.MarkLemmas.{IsMarking}
use Rattle.graph_check.proofs.marking.mark_readers.Given as goal

abbrev pub invariant-loop-edge : goal.invariant-loop-edge
invariant-loop-edge l = IsMarking l.count l.edges l.initial.marks l.edge-index l.changed l.marks
