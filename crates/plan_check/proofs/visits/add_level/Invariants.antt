use Rattle.std.proofs.Common.{◌≡◌, ◌++◌, take}
use Rattle.plan_check.specs.Visits.{of_level}
use Rattle.plan_check.proofs.visits.add_level.Given as goal

-- those of the level so far
abbrev pub invariant-loop-visit : goal.invariant-loop-visit
invariant-loop-visit l = l.order.items ≡ l.initial.order.items ++ of_level (take l.visit-index l.visits) l.level
