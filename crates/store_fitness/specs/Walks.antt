-- What a walk along definitions finds.
use Rattle.std.specs.Prelude.{ℕ, List, Option, Some, None}
use Rattle.std.specs.List.{AllByRecursion}
use Rattle.commit_payloads.specs.declared.definition.Definition.{Definition}
use Rattle.store_fitness.specs.Fitness.{IsFirstNot}

-- the name of the first definition of which this isn't so, and none where it is so of each
abbrev pub Finds : (Definition → Type 0) → List Definition → Option (List ℕ) → Type 0
Finds P list None = AllByRecursion P list
Finds P list (Some name) = IsFirstNot P list name
