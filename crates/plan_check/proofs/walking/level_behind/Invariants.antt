use Rattle.std.proofs.Common.{◌≡◌, ◌≤◌, drop, take, length}
use Rattle.plan_check.specs.Walks.{level_behind}
use Rattle.plan_check.proofs.walking.level_behind.Given as goal

-- the visits that are left, behind the datasets so far, come to what all come to
abbrev pub invariant-loop-visit : goal.invariant-loop-visit
invariant-loop-visit l = record {
  same : level_behind l.statements l.resolved l.fn.lesser l.datasets (drop l.visit-index l.visits) ≡ level_behind l.statements l.resolved l.fn.lesser l.fn.lesser l.visits;
  kept : take l.count l.datasets ≡ l.fn.lesser;
  within : l.count ≤ length l.datasets;
}
