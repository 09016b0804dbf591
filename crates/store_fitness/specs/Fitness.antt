-- When the flows of a plan can go on from a store.
use Rattle.std.specs.Prelude.{◌≡◌, ◌⊎◌, ⊤, ℕ, List, [], ◌∷◌, Option, Some, None, find, IfSome, IsSomeAnd, IsTrue}
use Rattle.std.specs.List.{AllByRecursion}
use Rattle.std.specs.Option.{option_and_then}
use Rattle.value_core.specs.declared.cursor.Cursor.{Cursor}
use Rattle.value_core.specs.declared.cursor.Cursor.TheVariants.{At}
use Rattle.commit_payloads.specs.declared.definition.Definition.{Definition}
use Rattle.commit_payloads.specs.declared.definition.StoredBody.{StoredBody}
use Rattle.commit_payloads.specs.declared.definition.StoredBody.TheVariants.{Append, Scd1, Scd2, View}
use Rattle.commit_payloads.specs.declared.definition.StoredOrigin.{StoredOrigin}
use Rattle.commit_payloads.specs.declared.definition.StoredOrigin.TheVariants.{Table}
use Rattle.plan_core.specs.declared.plan.Dataset.{Dataset as Part}
use Rattle.commit_payloads.specs.declared.take.Take.{Take}
use Rattle.plan_core.specs.Sound.{dataset_named, is_append}
use Rattle.pair_state.specs.Leads.{IsReachable}
use Rattle.state_model.specs.Dataset.{Dataset, State, cursor_of, dataset_of, definitions_of, flow_of, is_flow, version_of}
use Rattle.state_steps.specs.Consumed.{IsKept, IsStreamed}
use Rattle.state_steps.specs.Parts.{definition_of}

-- ---- one dataset of a store

-- it is stored as the plan's dataset of its name is defined
abbrev pub IsAlike : List Part → Definition → Type 0
IsAlike plan definition = IsSomeAnd (dataset_named plan definition.name) (λ part. definition ≡ definition_of plan part)

-- a version of its source from which a flow can go on: it is kept, and no row was removed after it; a view sees rows go
abbrev pub CanGoOn : StoredBody → ℕ → Dataset → Type 0
CanGoOn Append version source = IsStreamed version source
CanGoOn Scd1 version source = IsStreamed version source
CanGoOn Scd2 version source = IsStreamed version source
CanGoOn View version source = IsKept version source

-- a position of a flow, where it is a version of a dataset, is such a one
abbrev pub PositionFits : State → StoredBody → StoredOrigin → Cursor → Type 0
PositionFits state body (Table source) (At version) = IsSomeAnd (dataset_of state source) (CanGoOn body version)
PositionFits state body from cursor = ⊤

-- how far the flow of a name of the dataset of a name has read
abbrev pub position_of : State → List ℕ → List ℕ → Option Cursor
position_of state name flow = option_and_then (λ dataset. cursor_of dataset flow) (dataset_of state name)

-- the flow of a name stands at a position that fits
abbrev pub FlowFits : State → Definition → List ℕ → Type 0
FlowFits state definition name = IfSome (find (is_flow name) definition.flows) (λ flow. IfSome (position_of state definition.name name) (PositionFits state definition.body flow.origin))

-- each flow of a dataset, by its name, does
abbrev pub ReadsOn : State → Definition → Type 0
ReadsOn state definition = AllByRecursion (λ flow. FlowFits state definition flow.name) definition.flows

-- ---- the first dataset that doesn't fit

-- the first of these definitions of which this isn't so has the name
abbrev pub IsFirstNot : (Definition → Type 0) → List Definition → List ℕ → Type 0
IsFirstNot P [] name = ⊥
IsFirstNot P (definition ∷ list) name = ((P definition → ⊥) × (name ≡ definition.name)) ⊎ (P definition × IsFirstNot P list name)

-- a store fits a plan of append tables: each dataset is stored as it is defined, and each flow can go on from where it stands
pub record FitsPlan (plan : List Part) (state : State) : Type 0 where
  pub alike : AllByRecursion (IsAlike plan) (definitions_of state)
  pub read_on : AllByRecursion (ReadsOn state) (definitions_of state)

-- the name of the first dataset that is stored otherwise than it is defined, or else of the first one with a flow that can't go on
abbrev pub IsUnfit : List Part → State → List ℕ → Type 0
IsUnfit plan state name = IsFirstNot (IsAlike plan) (definitions_of state) name ⊎ (AllByRecursion (IsAlike plan) (definitions_of state) × IsFirstNot (ReadsOn state) (definitions_of state) name)

abbrev pub Answers : List Part → State → Option (List ℕ) → Type 0
Answers plan state None = FitsPlan plan state
Answers plan state (Some name) = IsUnfit plan state name

-- ---- an engine's store

-- each dataset of the plan is stored
abbrev pub AreStored : List Part → State → Type 0
AreStored plan state = AllByRecursion (λ part. IsSomeAnd (dataset_of state part.name) (λ _. ⊤)) plan

-- What an engine keeps of its store: payloads led to it, it has every dataset of the plan, and it fits the plan.
pub record IsReady (plan : List Part) (state : State) : Type 0 where
  pub reached : IsReachable state
  pub stored : AreStored plan state
  pub fits : FitsPlan plan state

-- ---- a batch

-- each dataset of the plan is an append table
abbrev pub AreAppends : List Part → Type 0
AreAppends plan = AllByRecursion (λ part. IsTrue (is_append part.body)) plan

-- a position in a dataset is its version now
abbrev pub IsSourceNow : State → StoredOrigin → Cursor → Type 0
IsSourceNow state (Table source) (At version) = IsSomeAnd (dataset_of state source) (λ dataset. version ≡ version_of dataset)
IsSourceNow state from cursor = ⊤

-- a batch moves its flow to its source's version
abbrev pub EndsAtSource : State → Take → Type 0
EndsAtSource state batch = IsSomeAnd (dataset_of state batch.table) (λ target. IfSome (flow_of target batch.flow) (λ flow. IsSourceNow state flow.origin batch.cursor))
