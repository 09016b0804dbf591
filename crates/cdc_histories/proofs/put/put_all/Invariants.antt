use Rattle.std.proofs.Common.{length}
use Rattle.event_ledger.specs.Keyed.{all_events}
use Rattle.cdc_histories.proofs.ApplyLemmas.{Applying}
use Rattle.cdc_histories.proofs.put.put_all.Given as goal

abbrev pub invariant-loop-event : goal.invariant-loop-event
invariant-loop-event g l = Applying l.flow.ignore_null l.flow.tracked (all_events l.fn.histories.entries) l.events l.left l.histories.entries l.removed.items l.added.items l.fn.steps l.steps

abbrev pub decreases-loop-event : goal.decreases-loop-event
decreases-loop-event g l = length l.left
