use Rattle.std.proofs.Common.{◌≡◌, take}
use Rattle.store_tables.proofs.part.copy_events.Given as goal

-- the events so far are copied
abbrev pub invariant-loop-event : goal.invariant-loop-event
invariant-loop-event l = l.copies ≡ take l.event-index l.event-items
