use Rattle.std.proofs.Common.{◌≡◌, ◌≤◌, length, drop}
use Rattle.value_core.specs.EventOrder.{event_order, sorted_by}
use Rattle.event_ledger.proofs.ledger.Ledger.build.Given as goal

abbrev pub invariant-loop-i : goal.invariant-loop-i
invariant-loop-i g l = (l.i ≤ length l.events) × (l.ledger ≡ sorted_by event_order (drop l.i l.events))

abbrev pub decreases-loop-i : goal.decreases-loop-i
decreases-loop-i g l = l.i
