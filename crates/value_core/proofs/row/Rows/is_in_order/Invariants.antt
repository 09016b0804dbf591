use Rattle.std.proofs.Common.{◌↔◌, length}
use Rattle.value_core.specs.Bags.{IsInOrder}
use Rattle.value_core.proofs.row.Rows.is_in_order.Given as goal

-- the rows are in order exactly where the rest is
abbrev pub invariant-loop-first : goal.invariant-loop-first
invariant-loop-first l = IsInOrder l.rest ↔ IsInOrder l.fn.self

abbrev pub decreases-loop-first : goal.decreases-loop-first
decreases-loop-first l = length l.rest
