use Rattle.std.proofs.Common.{◌↔◌, length}
use Rattle.state_steps.specs.Consumed.{RemoveNone}
use Rattle.store_fitness.proofs.position.remove_none.Given as goal

-- the changes that are left remove none exactly where all remove none
abbrev pub invariant-loop-change : goal.invariant-loop-change
invariant-loop-change l = RemoveNone l.left ↔ RemoveNone l.changes

abbrev pub decreases-loop-change : goal.decreases-loop-change
decreases-loop-change l = length l.left
