-- Parts of definitions.
use Rattle.std.specs.Prelude.{ℕ, List, [], ◌∷◌, map}
use Rattle.commit_payloads.specs.declared.definition.Definition.{Definition}
use Rattle.commit_payloads.specs.declared.definition.StoredFlow.{StoredFlow}
use Rattle.commit_payloads.specs.declared.definition.StoredOrigin.{StoredOrigin}
use Rattle.plan_core.specs.declared.plan.Dataset.{Dataset}
use Rattle.state_steps.specs.Parts.{definition_of}

-- one flow of this name over this origin
abbrev pub one_stored : List ℕ → StoredOrigin → List StoredFlow
one_stored name origin = record { name = name; origin = origin } ∷ []

-- the definitions of a plan's datasets, in declared order
abbrev pub definitions_by : List Dataset → List Definition
definitions_by plan = map (definition_of plan) plan
