use Rattle.std.proofs.Common.{◌≡◌, drop}
use Rattle.plan_check.specs.Walks.{levels_behind, walk}
use Rattle.plan_check.proofs.walking.walk.Given as goal

-- the levels that are left, behind the datasets so far, come to what all come to
abbrev pub invariant-loop-level : goal.invariant-loop-level
invariant-loop-level l = levels_behind l.statements l.resolved l.visits l.datasets (drop l.level-index l.level-items) ≡ walk l.statements l.resolved l.visits
