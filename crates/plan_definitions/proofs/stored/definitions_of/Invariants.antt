use Rattle.std.proofs.Common.{◌≡◌, map, take}
use Rattle.state_steps.specs.Parts.{definition_of}
use Rattle.plan_definitions.proofs.stored.definitions_of.Given as goal

abbrev pub invariant-loop-dataset : goal.invariant-loop-dataset
invariant-loop-dataset l = l.definitions ≡ map (definition_of l.plan) (take l.dataset-index l.dataset-items)
