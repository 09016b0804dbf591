use Rattle.std.proofs.Common.{length}
use Rattle.cdc_current.specs.Keeping.{keeping}
use Rattle.cdc_current.proofs.TurnLemmas.{Turning}
use Rattle.cdc_current.proofs.turns.turn_all.Given as goal

abbrev pub invariant-loop-event : goal.invariant-loop-event
invariant-loop-event l = Turning (keeping l.ignore_null l.fn.truncated l.fn.keys.entries) (keeping l.ignore_null l.truncated l.keys.entries) l.events l.left l.removed.items l.added.items

abbrev pub decreases-loop-event : goal.decreases-loop-event
decreases-loop-event l = length l.left
