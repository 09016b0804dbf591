use Rattle.std.proofs.Common.{◌+◌, length}
use Rattle.net_changes.proofs.NetLemmas.{Merges}
use Rattle.net_changes.proofs.merge.net_in_order.Given as goal

abbrev pub invariant-loop-x : goal.invariant-loop-x
invariant-loop-x l = Merges l.left l.right l.old l.new l.removed l.added

abbrev pub decreases-loop-x : goal.decreases-loop-x
decreases-loop-x l = length l.old + length l.new
