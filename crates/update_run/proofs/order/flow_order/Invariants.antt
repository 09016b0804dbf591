use Rattle.std.proofs.Common.{◌≡◌, ◌++◌, ◌-◌}
use Rattle.update_run.specs.Order.{flow_order, flows_by_level, levels_in}
use Rattle.update_run.proofs.order.flow_order.Given as goal

-- the flows so far and those of the levels that are left are all
abbrev pub invariant-loop-level : goal.invariant-loop-level
invariant-loop-level l = l.order.items ++ flows_by_level l.level (levels_in l.datasets - l.level) l.datasets ≡ flow_order l.datasets
