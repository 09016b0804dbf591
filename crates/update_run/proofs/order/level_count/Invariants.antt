use Rattle.std.proofs.Common.{◌≡◌, ◌≤◌, ◌^◌, drop}
use Rattle.std.specs.Prelude.{max}
use Rattle.update_run.specs.Order.{levels_in}
use Rattle.update_run.proofs.order.level_count.Given as goal

-- the greater of the count so far and that of the datasets that are left is the count
abbrev pub invariant-loop-dataset : goal.invariant-loop-dataset
invariant-loop-dataset l = record {
  levels : max l.count (levels_in (drop l.dataset-index l.plan)) ≡ levels_in l.plan;
  bound : l.count ≤ 2 ^ 32;
}
