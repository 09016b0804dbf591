use Rattle.std.proofs.Common.{◌≡◌, length}
use Rattle.state_model.specs.Follows.{names_differ}
use Rattle.payload_parts.proofs.definitions.names_differ.Given as goal

-- the names that are left have the answer
abbrev pub invariant-loop-name : goal.invariant-loop-name
invariant-loop-name l = names_differ l.rest ≡ names_differ l.fn.names

abbrev pub decreases-loop-name : goal.decreases-loop-name
decreases-loop-name l = length l.rest
