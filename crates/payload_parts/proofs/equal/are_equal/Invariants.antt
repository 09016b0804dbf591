use Rattle.std.proofs.Common.{◌≡◌, ◌↔◌, drop}
use Rattle.payload_parts.proofs.equal.are_equal.Given as goal

abbrev pub invariant-loop-x : goal.invariant-loop-x
invariant-loop-x g l = (drop l.x-index l.left ≡ l.rest) ↔ (l.left ≡ l.right)
