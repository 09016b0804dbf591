use Rattle.std.proofs.Common.{not}
use Rattle.std.specs.List.{count_by}
use Rattle.graph_check.proofs.MarkLemmas.{AreOfClosure}
use Rattle.graph_check.proofs.marking.closure.Given as goal

abbrev pub invariant-rounds : goal.invariant-rounds
invariant-rounds l = AreOfClosure l.count l.edges l.set l.marks.items

abbrev pub decreases-rounds : goal.decreases-rounds
decreases-rounds l = count_by not l.marks.items
