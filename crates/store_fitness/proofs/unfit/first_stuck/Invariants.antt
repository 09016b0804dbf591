use Rattle.std.proofs.Common.{ℕ, List, Option, length}
use Rattle.pair_store.specs.Store.{store_state}
use Rattle.store_fitness.specs.Fitness.{ReadsOn}
use Rattle.store_fitness.specs.Walks.{Finds}
use Rattle.store_fitness.proofs.unfit.first_stuck.Given as goal

-- what is found among the definitions that are left is found among all
abbrev pub invariant-loop-definition : goal.invariant-loop-definition
invariant-loop-definition g l = (found : Option (List ℕ)) → Finds (ReadsOn (store_state l.store)) l.left found → Finds (ReadsOn (store_state l.store)) l.definitions found

abbrev pub decreases-loop-definition : goal.decreases-loop-definition
decreases-loop-definition g l = length l.left
