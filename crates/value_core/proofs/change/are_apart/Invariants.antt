use Rattle.std.proofs.Common.{◌↔◌, ◌+◌, length}
use Rattle.value_core.specs.Bags.{IsInOrder}
use Rattle.value_core.specs.Changes.{IsApart}
use Rattle.value_core.proofs.change.are_apart.Given as goal

-- the lists are apart exactly where what is left of them is
abbrev pub invariant-loop-x : goal.invariant-loop-x
invariant-loop-x l = record { left : IsInOrder l.left; right : IsInOrder l.right; apart : IsApart l.left l.right ↔ IsApart l.fn.removed l.fn.added }

abbrev pub decreases-loop-x : goal.decreases-loop-x
decreases-loop-x l = length l.left + length l.right
