use Rattle.std.proofs.Common.{◌≡◌, [], drop, take}
use Rattle.state_model.specs.Follows.{are_new}
use Rattle.payload_parts.specs.Moments.{HasMoments}
use Rattle.payload_parts.proofs.events.moments_of.Given as goal

-- the moments so far, and the events that are left have the answer
abbrev pub invariant-loop-event : goal.invariant-loop-event
invariant-loop-event l = record {
  has : HasMoments l.moments (take l.event-index l.events);
  same : are_new (take l.event-index l.events) (drop l.event-index l.events) ≡ are_new [] l.events;
}
