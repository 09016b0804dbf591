use Rattle.std.proofs.Common.{◌≡◌, length}
use Rattle.state_model.specs.Follows.{are_distinct}
use Rattle.payload_parts.proofs.definitions.are_distinct.Given as goal

-- the definitions that are left have the answer
abbrev pub invariant-loop-definition : goal.invariant-loop-definition
invariant-loop-definition l = are_distinct l.rest ≡ are_distinct l.fn.list

abbrev pub decreases-loop-definition : goal.decreases-loop-definition
decreases-loop-definition l = length l.rest
