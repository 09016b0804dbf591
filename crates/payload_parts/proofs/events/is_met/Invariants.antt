use Rattle.std.proofs.Common.{◌≡◌, drop}
use Rattle.std.specs.BTreeSet.{contains}
use Rattle.std.specs.List.{list_any}
use Rattle.payload_parts.specs.Moments.{moment_key, moment_order}
use Rattle.payload_parts.proofs.events.is_met.Given as goal

-- the events that are left have the answer
abbrev pub invariant-loop-event : goal.invariant-loop-event
invariant-loop-event l = list_any (λ event. contains moment_order l.moments (moment_key event)) (drop l.event-index l.events) ≡ list_any (λ event. contains moment_order l.moments (moment_key event)) l.events
