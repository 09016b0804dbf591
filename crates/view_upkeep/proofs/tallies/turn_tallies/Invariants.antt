use Rattle.std.specs.Prelude.{◌≡◌, ◌++◌, length}
use Rattle.view_upkeep.specs.Tallies.{turned_counts}
use Rattle.view_upkeep.proofs.tallies.turn_tallies.Given as goal

abbrev pub decreases-loop-k : goal.decreases-loop-k
decreases-loop-k l = length l.kept_left

abbrev pub invariant-loop-k : goal.invariant-loop-k
invariant-loop-k l = l.turned ++ turned_counts l.kept_left l.out_left l.more_left ≡ turned_counts l.kept l.out l.more
