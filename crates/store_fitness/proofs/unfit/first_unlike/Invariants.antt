use Rattle.std.proofs.Common.{ℕ, List, Option, length}
use Rattle.store_fitness.specs.Fitness.{IsAlike}
use Rattle.store_fitness.specs.Walks.{Finds}
use Rattle.store_fitness.proofs.unfit.first_unlike.Given as goal

-- what is found among the definitions that are left is found among all
abbrev pub invariant-loop-definition : goal.invariant-loop-definition
invariant-loop-definition l = (found : Option (List ℕ)) → Finds (IsAlike l.plan) l.left found → Finds (IsAlike l.plan) l.definitions found

abbrev pub decreases-loop-definition : goal.decreases-loop-definition
decreases-loop-definition l = length l.left
