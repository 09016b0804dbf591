use Rattle.std.proofs.Common.{◌≡◌, drop}
use Rattle.std.specs.List.{list_all}
use Rattle.state_model.specs.Follows.{event_fits}
use Rattle.payload_parts.proofs.events.each_fits.Given as goal

-- the events that are left have the answer
abbrev pub invariant-loop-event : goal.invariant-loop-event
invariant-loop-event l = list_all (event_fits l.definition) (drop l.event-index l.events) ≡ list_all (event_fits l.definition) l.events
