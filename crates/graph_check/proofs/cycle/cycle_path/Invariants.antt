use Rattle.std.proofs.Common.{◌-◌, length}
use Rattle.graph_check.proofs.CycleLemmas.{IsWalked}
use Rattle.graph_check.proofs.cycle.cycle_path.Given as goal

abbrev pub invariant-walk : goal.invariant-walk
invariant-walk l = IsWalked l.count l.edges l.trail.items l.node

abbrev pub decreases-walk : goal.decreases-walk
decreases-walk l = l.count - length l.trail.items
