use Rattle.std.proofs.Common.{◌≡◌, map, take}
use Rattle.state_steps.specs.Parts.{stored_expectation}
use Rattle.plan_definitions.proofs.parts.stored_expectations.Given as goal

abbrev pub invariant-loop-expectation : goal.invariant-loop-expectation
invariant-loop-expectation l = l.stored ≡ map stored_expectation (take l.expectation-index l.expectations)
