-- Flows that run level by level.
use Rattle.std.specs.Prelude.{◌≡◌, ◌⊎◌, ◌≤◌, ⊤, ℕ, List, [], ◌∷◌, Some, true, false, IsSomeAnd}
use Rattle.value_core.specs.NameFold.{same_name}
use Rattle.landing_core.specs.declared.landing.LandingFile.{LandingFile}
use Rattle.plan_core.specs.declared.plan.Dataset.{Dataset as Part}
use Rattle.plan_core.specs.Sound.{dataset_named}
use Rattle.commit_payloads.specs.declared.payload.Payload.{Payload}
use Rattle.commit_payloads.specs.declared.payload.Payload.TheVariants as payload
use Rattle.state_model.specs.After.{after_payload}
use Rattle.state_model.specs.Dataset.{State, dataset_of}
use Rattle.state_steps.specs.Fresh.{AreAtEnd, Landed, reads_of}
use Rattle.state_steps.specs.Steps.{Commits}

-- all that the dataset of a part reads was read to its end
abbrev pub IsAtItsEnd : Landed → State → Part → Type 0
IsAtItsEnd landed state part = IsSomeAnd (dataset_of state part.name) (λ dataset. AreAtEnd landed state (reads_of part.body) dataset.cursors)

-- a batch into the dataset of this name, or its refresh
abbrev pub IsInto : List ℕ → Payload → Type 0
IsInto name (payload.Define is_fresh list) = ⊥
IsInto name (payload.Take batch) = same_name batch.table name ≡ true
IsInto name (payload.Refresh refresh) = same_name refresh.view name ≡ true
IsInto name (payload.Reset names) = ⊥
IsInto name (payload.Base base) = ⊥

-- batches into one dataset, or refreshes of it, one after the other
pub data RunsOne : List Part → List LandingFile → List ℕ → State → State → Type 0 where
  Idle : (parts : List Part) (ever : List LandingFile) (name : List ℕ) (state : State) → RunsOne parts ever name state state
  Goes : (parts : List Part) (ever : List LandingFile) (name : List ℕ) (state last : State) (body : Payload) → IsInto name body → Commits parts ever state body parts → RunsOne parts ever name (after_payload state body) last
      → RunsOne parts ever name state last

-- datasets run one after the other, each until all that it reads was read to its end
pub data RunsAll : Landed → List Part → List Part → State → State → Type 0 where
  Ends : (landed : Landed) (parts : List Part) (state : State) → RunsAll landed parts [] state state
  Then : (landed : Landed) (parts : List Part) (part : Part) (rest : List Part) (state next last : State) → RunsOne parts landed.ever part.name state next → IsAtItsEnd landed next part → RunsAll landed parts rest next last
      → RunsAll landed parts (part ∷ rest) state last

-- each of the others has another name, and no lesser level
abbrev pub ComesBefore : Part → List Part → Type 0
ComesBefore part [] = ⊤
ComesBefore part (next ∷ rest) = ((part.level ≤ next.level) × (same_name part.name next.name ≡ false)) × ComesBefore part rest

-- datasets of a plan, level by level
abbrev pub AreInLevels : List Part → List Part → Type 0
AreInLevels plan [] = ⊤
AreInLevels plan (part ∷ rest) = (dataset_named plan part.name ≡ Some part) × ComesBefore part rest × AreInLevels plan rest

-- a part is one of these
abbrev pub IsOneOf : Part → List Part → Type 0
IsOneOf part [] = ⊥
IsOneOf part (next ∷ rest) = (part ≡ next) ⊎ IsOneOf part rest

-- each part is
abbrev pub AreAllOf : List Part → List Part → Type 0
AreAllOf [] order = ⊤
AreAllOf (part ∷ parts) order = IsOneOf part order × AreAllOf parts order
