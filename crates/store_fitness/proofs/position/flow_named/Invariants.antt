use Rattle.std.proofs.Common.{◌≡◌, find, length}
use Rattle.state_model.specs.Dataset.{is_flow}
use Rattle.store_fitness.proofs.position.flow_named.Given as goal

-- the first among the flows that are left is the first of all
abbrev pub invariant-loop-flow : goal.invariant-loop-flow
invariant-loop-flow l = find (is_flow l.name) l.left ≡ find (is_flow l.name) l.flows

abbrev pub decreases-loop-flow : goal.decreases-loop-flow
decreases-loop-flow l = length l.left
