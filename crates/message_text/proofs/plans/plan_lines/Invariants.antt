use Rattle.std.proofs.Common.{◌≡◌}
use Rattle.std.specs.List.{flat_map, range_with_len}
use Rattle.message_text.specs.PlanLines.{level_lines}
use Rattle.message_text.proofs.plans.plan_lines.Given as goal

-- the lines of the levels so far
abbrev pub invariant-loop-level : goal.invariant-loop-level
invariant-loop-level l = l.lines.items ≡ flat_map (level_lines l.plan) (range_with_len 0 l.level)
