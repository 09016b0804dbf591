-- When the payloads of an update may be committed.
use Rattle.std.specs.Prelude.{◌≡◌, ⊤, List, [], ◌∷◌, ◌++◌, ℕ, Some, IsSomeAnd, filter}
use Rattle.std.specs.List.{AllByRecursion}
use Rattle.landing_core.specs.declared.landing.LandingFile.{LandingFile}
use Rattle.commit_payloads.specs.declared.definition.Definition.{Definition}
use Rattle.commit_payloads.specs.declared.payload.Payload.{Payload}
use Rattle.plan_core.specs.declared.plan.Dataset.{Dataset as Part}
use Rattle.plan_core.specs.Sound.{dataset_named}
use Rattle.state_model.specs.After.{after_payload}
use Rattle.state_model.specs.Dataset.{State, definitions_of}
use Rattle.state_steps.specs.Parts.{AllKeepText, streams_of}
use Rattle.state_steps.specs.Steps.{Commits}
use Rattle.update_plan.specs.Payloads.{is_new}
use Rattle.update_plan.specs.declared.ends.Refresh.{Refresh}
use Rattle.update_plan.specs.declared.ends.Refresh.TheVariants as refresh

-- ---- what is not refused

-- a dataset of the plan has this name
abbrev pub IsDeclared : List Part → List ℕ → Type 0
IsDeclared plan name = IsSomeAnd (dataset_named plan name) (λ part. ⊤)

-- a dataset of the plan has the name and the text of this definition
abbrev pub IsUnchanged : List Part → Definition → Type 0
IsUnchanged plan definition = IsSomeAnd (dataset_named plan definition.name) (λ part. definition.text ≡ part.text)

-- each listed name is declared, and, unless everything begins anew, each stored definition with its text
abbrev pub IsAccepted : List Part → List Definition → Refresh → Type 0
IsAccepted plan stored refresh.Nothing = AllByRecursion (IsUnchanged plan) stored
IsAccepted plan stored refresh.All = ⊤
IsAccepted plan stored (refresh.Only names) = AllByRecursion (IsDeclared plan) names × AllByRecursion (IsUnchanged plan) stored

-- ---- commits one after the other

-- each of these is the plan's dataset of its name
abbrev pub AreOfPlan : List Part → List Part → Type 0
AreOfPlan plan parts = AllByRecursion (λ part. dataset_named plan part.name ≡ Some part) parts

-- so it is unless everything begins anew
abbrev pub IsOfPlan : List Part → List Part → Refresh → Type 0
IsOfPlan plan parts refresh.All = ⊤
IsOfPlan plan parts other = AreOfPlan plan parts

-- each of these is the plan's dataset of its name where that has its text
abbrev pub TextsTell : List Part → List Part → Type 0
TextsTell plan parts = AllByRecursion (λ part. (other : Part) → dataset_named plan part.name ≡ Some other → part.text ≡ other.text → other ≡ part) parts

-- rescued text is kept in a STRING by each of these
abbrev pub PartsKeepText : List Part → Type 0
PartsKeepText parts = AllByRecursion (λ part. AllKeepText (streams_of part.body)) parts

-- the datasets of a store after the payloads: all of the plan's in declared order, or the new ones behind those that are there
abbrev pub parts_after : List Part → List Part → State → Refresh → List Part
parts_after plan parts state refresh.All = plan
parts_after plan parts state other = parts ++ filter (is_new (definitions_of state)) plan

-- these payloads may be committed one after the other, and lead from a store with these parts to one with those
abbrev pub AllCommit : List Part → List LandingFile → State → List Payload → List Part → Type 0
AllCommit parts ever state [] new = new ≡ parts
AllCommit parts ever state (payload ∷ payloads) new = (next : List Part) × Commits parts ever state payload next × AllCommit next ever (after_payload state payload) payloads new
