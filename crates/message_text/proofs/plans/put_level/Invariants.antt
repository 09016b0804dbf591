use Rattle.std.proofs.Common.{◌≡◌, ◌++◌, take}
use Rattle.message_text.specs.PlanLines.{level_lines}
use Rattle.message_text.proofs.plans.put_level.Given as goal

-- the lines of those of the level so far
abbrev pub invariant-loop-dataset : goal.invariant-loop-dataset
invariant-loop-dataset l = l.out.items ≡ l.initial.out.items ++ level_lines (take l.dataset-index l.plan) l.level
