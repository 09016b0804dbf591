use Rattle.std.proofs.Common.{◌≡◌, drop}
use Rattle.update_plan.specs.Refusals.{first_unknown}
use Rattle.update_plan.proofs.ends.first_unknown.Given as goal

-- the first among the names that are left is the first of all
abbrev pub invariant-loop-name : goal.invariant-loop-name
invariant-loop-name l = first_unknown l.plan (drop l.name-index l.names) ≡ first_unknown l.plan l.names
