use Rattle.std.proofs.Common.{◌≡◌}
use Rattle.plan_check.specs.Names.{AreNewBehind}
use Rattle.plan_check.proofs.placing.plan_of.Given as goal

-- the datasets so far, before others that have none of their names
abbrev pub invariant-loop-dataset : goal.invariant-loop-dataset
invariant-loop-dataset l = record {
  sofar : l.plan ≡ l.yielded;
  others : AreNewBehind l.yielded l.dataset-iterator.rest.items;
}
