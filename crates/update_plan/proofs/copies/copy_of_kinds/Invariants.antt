use Rattle.std.proofs.Common.{◌≡◌, take}
use Rattle.update_plan.proofs.copies.copy_of_kinds.Given as goal

-- those so far
abbrev pub invariant-loop-kind : goal.invariant-loop-kind
invariant-loop-kind l = l.copy ≡ take l.kind-index l.kind-items
