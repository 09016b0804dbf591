use Rattle.std.proofs.Common.{refl, inl}
use Rattle.plan_check.proofs.checking.levelled.Goals as goal

pub returns-in-Err-Cycle : goal.returns-in-Err-Cycle
returns-in-Err-Cycle c = rw c.in-Err-Cycle.field-0-is (inl (record {
  cyclic = rw c.in-Err-Cycle.field-0-is at c.in-Err-Cycle.ensures.cycle;
  path = c.in-Err-Cycle.path;
  is_named = rw c.in-Err-Cycle.field-0-is at c.in-Err-Cycle.ensures.path;
  answer_is = refl;
}))
