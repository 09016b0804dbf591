use Rattle.std.proofs.Common.{◌≡◌, ◌+◌, drop}
use Rattle.value_core.specs.Bags.{count_of}
use Rattle.value_core.specs.Order.{Row}
use Rattle.payload_parts.specs.Bag.{times_of}
use Rattle.payload_parts.proofs.bag.RowBag.take_all.Given as goal

-- what there was and the rows that are left come to what there is and all rows
abbrev pub invariant-loop-row : goal.invariant-loop-row
invariant-loop-row l = (q : Row) → times_of l.initial.self.times.entries q + count_of q (drop l.row-index l.rows) ≡ times_of l.self.times.entries q + count_of q l.rows
