use Rattle.std.proofs.Common.{◌≡◌, ◌++◌, drop, map, filter}
use Rattle.state_steps.specs.Parts.{definition_of}
use Rattle.update_plan.specs.Payloads.{is_new, new_definitions}
use Rattle.update_plan.proofs.payloads.put_new.Given as goal

-- the definitions so far and those of the new datasets that are left are all
abbrev pub invariant-loop-dataset : goal.invariant-loop-dataset
invariant-loop-dataset l = l.list ++ map (definition_of l.plan) (filter (is_new l.stored) (drop l.dataset-index l.dataset-items)) ≡ l.initial.list ++ new_definitions l.plan l.stored
