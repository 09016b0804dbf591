use Rattle.std.proofs.Common.{◌≡◌, ◌++◌, drop}
use Rattle.update_run.specs.Order.{flows_of_level}
use Rattle.update_run.proofs.order.put_level.Given as goal

-- the flows so far and those of the datasets that are left are all
abbrev pub invariant-loop-place : goal.invariant-loop-place
invariant-loop-place l = l.order.items ++ flows_of_level l.level l.place (drop l.place l.plan) ≡ l.initial.order.items ++ flows_of_level l.level 0 l.plan
