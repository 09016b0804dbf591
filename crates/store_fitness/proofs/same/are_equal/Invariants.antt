use Rattle.std.proofs.Common.{◌≡◌, ◌↔◌, length}
use Rattle.store_fitness.proofs.same.are_equal.Given as goal

-- what is left is equal exactly where the lists are
abbrev pub invariant-loop-first : goal.invariant-loop-first
invariant-loop-first g l = (l.left ≡ l.right) ↔ (l.one ≡ l.other)

abbrev pub decreases-loop-first : goal.decreases-loop-first
decreases-loop-first g l = length l.left
