use Rattle.std.proofs.Common.{◌≡◌, take}
use Rattle.std.specs.List.{flat_map}
use Rattle.plan_check.specs.Visits.{levels_in, of_level}
use Rattle.plan_check.proofs.visits.by_level.Given as goal

-- those of the levels so far
abbrev pub invariant-loop-level : goal.invariant-loop-level
invariant-loop-level l = l.order.items ≡ flat_map (of_level l.visits) (take l.level-index l.level-items)
