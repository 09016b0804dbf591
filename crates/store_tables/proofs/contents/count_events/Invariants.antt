use Rattle.std.proofs.Common.{◌≡◌, ◌+◌}
use Rattle.store_tables.proofs.contents.count_events.Given as goal

-- one look for each event so far
abbrev pub invariant-loop-event : goal.invariant-loop-event
invariant-loop-event g l = l.steps ≡ l.fn.steps + l._event-index
