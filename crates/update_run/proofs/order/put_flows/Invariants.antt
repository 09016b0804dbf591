use Rattle.std.proofs.Common.{◌≡◌, ◌++◌, ◌-◌}
use Rattle.update_run.specs.Order.{flows_from}
use Rattle.update_run.proofs.order.put_flows.Given as goal

-- the flows so far and those that are left are all
abbrev pub invariant-loop-flow : goal.invariant-loop-flow
invariant-loop-flow l = l.order.items ++ flows_from l.dataset l.flow (l.count - l.flow) ≡ l.initial.order.items ++ flows_from l.dataset 0 l.count
