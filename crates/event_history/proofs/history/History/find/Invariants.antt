use Rattle.std.proofs.Common.{◌-◌}
use Rattle.event_history.proofs.Finds.{Seeks}
use Rattle.event_history.proofs.history.History.find.Given as goal

abbrev pub invariant-loop-low : goal.invariant-loop-low
invariant-loop-low g l = Seeks l.self l.sequence l.low l.high l.steps l.fn.steps

abbrev pub decreases-loop-low : goal.decreases-loop-low
decreases-loop-low g l = l.high - l.low
