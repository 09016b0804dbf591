use Rattle.std.proofs.Common.{◌≡◌, length}
use Rattle.commit_payloads.specs.Forms.{are_ascending}
use Rattle.payload_parts.proofs.spelling.are_ascending.Given as goal

abbrev pub invariant-loop-first : goal.invariant-loop-first
invariant-loop-first l = are_ascending l.rest ≡ are_ascending l.fn.events

abbrev pub decreases-loop-first : goal.decreases-loop-first
decreases-loop-first l = length l.rest
