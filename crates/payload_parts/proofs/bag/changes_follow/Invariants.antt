use Rattle.std.proofs.Common.{◌↔◌, List, drop}
use Rattle.value_core.specs.Order.{Row}
use Rattle.net_changes.specs.Chains.{Follow}
use Rattle.payload_parts.specs.Bag.{CountsRows}
use Rattle.payload_parts.proofs.bag.changes_follow.Given as goal

-- the bag has the rows after the changes so far, and those that are left follow where all do
abbrev pub invariant-loop-change : goal.invariant-loop-change
invariant-loop-change l = (now : List Row) × CountsRows l.bag.times.entries now × (Follow now (drop l.change-index l.changes) ↔ Follow l.rows l.changes)
