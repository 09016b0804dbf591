use Rattle.std.proofs.Common.{◌↔◌, length}
use Rattle.std.specs.List.{AllByRecursion}
use Rattle.pair_store.specs.Store.{store_state}
use Rattle.store_fitness.specs.Fitness.{FlowFits, ReadsOn}
use Rattle.store_fitness.proofs.position.reads_on.Given as goal

-- the flows that are left go on exactly where all do
abbrev pub invariant-loop-flow : goal.invariant-loop-flow
invariant-loop-flow g l = AllByRecursion (λ flow. FlowFits (store_state l.store) l.definition flow.name) l.left ↔ ReadsOn (store_state l.store) l.definition

abbrev pub decreases-loop-flow : goal.decreases-loop-flow
decreases-loop-flow g l = length l.left
