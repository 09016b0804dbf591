use Rattle.std.proofs.Common.{◌≡◌, drop}
use Rattle.update_plan.specs.Refusals.{first_unlike}
use Rattle.update_plan.proofs.ends.first_unlike.Given as goal

-- the first among the definitions that are left is the first of all
abbrev pub invariant-loop-definition : goal.invariant-loop-definition
invariant-loop-definition l = first_unlike l.plan (drop l.definition-index l.stored) ≡ first_unlike l.plan l.stored
