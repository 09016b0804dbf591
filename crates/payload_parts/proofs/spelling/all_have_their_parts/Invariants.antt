use Rattle.std.proofs.Common.{◌≡◌, drop}
use Rattle.commit_payloads.specs.Forms.{all_have_their_parts}
use Rattle.payload_parts.proofs.spelling.all_have_their_parts.Given as goal

abbrev pub invariant-loop-event : goal.invariant-loop-event
invariant-loop-event l = all_have_their_parts (drop l.event-index l.events) ≡ all_have_their_parts l.events
