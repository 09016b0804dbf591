use Rattle.std.proofs.Common.{◌≡◌, take}
use Rattle.pipeline_run.specs.PlanLines.{plan_lines as the_plan_lines}
use Rattle.pipeline_run.proofs.plan_line.plan_lines.Given as goal

abbrev pub invariant-loop-dataset : goal.invariant-loop-dataset
invariant-loop-dataset l = l.lines.items ≡ the_plan_lines (take l.dataset-index l.plan)
