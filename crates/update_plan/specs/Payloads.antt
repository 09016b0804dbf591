-- What an update commits before its flows.
use Rattle.std.specs.Prelude.{◌≡◌, ℕ, List, [], ◌∷◌, ◌++◌, Bool, true, false, not, filter, filter_map, map, if◌then◌else◌}
use Rattle.std.specs.List.{list_any}
use Rattle.std.specs.List.Sorted.{IsStrictlyIncreasing}
use Rattle.commit_payloads.specs.declared.definition.Definition.{Definition}
use Rattle.commit_payloads.specs.declared.payload.Payload.{Payload}
use Rattle.commit_payloads.specs.declared.payload.Payload.TheVariants.{Define, Reset}
use Rattle.plan_core.specs.declared.plan.Dataset.{Dataset as Part}
use Rattle.plan_definitions.specs.Stored.{definitions_by}
use Rattle.state_model.specs.Dataset.{is_defined}
use Rattle.state_steps.specs.Parts.{definition_of}
use Rattle.stream_closure.specs.Streams.{IsClosureOf, edges_of, names_at, place_from}
use Rattle.update_plan.specs.declared.ends.Refresh.{Refresh}
use Rattle.update_plan.specs.declared.ends.Refresh.TheVariants as refresh

-- ---- definitions

-- a stored definition has this name, whatever the case of its ASCII letters
abbrev pub is_stored : List Definition → List ℕ → Bool
is_stored stored name = list_any (is_defined name) stored

-- no stored definition has the name of this dataset
abbrev pub is_new : List Definition → Part → Bool
is_new stored part = not (is_stored stored part.name)

-- the definitions of the datasets that are new, in declared order
abbrev pub new_definitions : List Part → List Definition → List Definition
new_definitions plan stored = map (definition_of plan) (filter (is_new stored) plan)

-- where there are some, one payload puts them behind the stored ones
abbrev pub additions : List Part → List Definition → List Payload
additions plan stored = if list_any (is_new stored) plan then Define false (stored ++ new_definitions plan stored) ∷ [] else []

-- ---- a reset

-- the places in the plan of the datasets of these names
abbrev pub places_of : List Part → List (List ℕ) → List ℕ
places_of plan names = filter_map (place_from 0 plan) names

-- the names, in declared order, of the datasets of these names and of all tables that stream from one of them, directly or not
pub record IsResetOf (plan : List Part) (names reset : List (List ℕ)) : Type 0 where
  pub places : List ℕ
  pub declared_order : IsStrictlyIncreasing places
  pub closure : IsClosureOf (edges_of plan) (places_of plan names) places
  pub names_are : reset ≡ names_at plan places

-- ---- payloads

-- new datasets, and then the reset of these names
abbrev pub AreAdditionsAndReset : List Part → List Definition → List (List ℕ) → List Payload → Type 0
AreAdditionsAndReset plan stored names payloads = (reset : List (List ℕ)) × IsResetOf plan names reset × (payloads ≡ additions plan stored ++ Reset reset ∷ [])

-- the payloads that an update commits before its flows, in their order: all datasets anew, or those that are new and then a reset
abbrev pub ArePlanned : List Part → List Definition → Refresh → List Payload → Type 0
ArePlanned plan stored refresh.Nothing payloads = payloads ≡ additions plan stored
ArePlanned plan stored refresh.All payloads = payloads ≡ Define true (definitions_by plan) ∷ []
ArePlanned plan stored (refresh.Only names) payloads = AreAdditionsAndReset plan stored names payloads
