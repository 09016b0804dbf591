-- The steps that a store and its landing files may take.
use Rattle.std.specs.Prelude.{◌≡◌, ⊤, List, [], ◌∷◌, ◌++◌, ℕ, Bool, true, false, drop, take, find, length, Option, Some, None, IsSomeAnd, Ok}
use Rattle.std.specs.List.{list_any}
use Rattle.value_core.specs.declared.cursor.Cursor.{Cursor}
use Rattle.value_core.specs.declared.cursor.Cursor.TheVariants.{Files, At, Never}
use Rattle.value_core.specs.Bags.{SameBag, in_row_order, net_change}
use Rattle.value_core.specs.Changes.{change_of}
use Rattle.value_core.specs.FilePlaces.{IsPlaces}
use Rattle.value_core.specs.NameFold.{same_name}
use Rattle.value_core.specs.Order.{Row}
use Rattle.net_changes.specs.Chains.{all_added}
use Rattle.landing_core.specs.declared.landing.LandingFile.{LandingFile}
use Rattle.landing_history.specs.Taken.{AreEnds, HaveGrown}
use Rattle.plan_core.specs.declared.expectation.Expectation.{Expectation}
use Rattle.plan_core.specs.declared.flow.AppendFlow.{AppendFlow}
use Rattle.plan_core.specs.declared.flow.Cdc.{Cdc}
use Rattle.plan_core.specs.declared.flow.Origin.{Origin}
use Rattle.plan_core.specs.declared.flow.Origin.TheVariants as origin
use Rattle.plan_core.specs.declared.plan.Body.{Body}
use Rattle.plan_core.specs.declared.plan.Body.TheVariants as body
use Rattle.plan_core.specs.declared.plan.Dataset.{Dataset as Part}
use Rattle.plan_core.specs.declared.query.Query.{Query}
use Rattle.plan_core.specs.Sound.{IsSoundPlan, dataset_named}
use Rattle.flow_model.specs.Admission.{counts}
use Rattle.flow_model.specs.Append.{append_out, append_seen, append_stop}
use Rattle.flow_model.specs.Events.{fresh}
use Rattle.flow_model.specs.Feed.{feed_seen, feed_stop, given}
use Rattle.flow_model.specs.Target.{target_rows}
use Rattle.flow_model.specs.Views.{Viewed, viewed}
use Rattle.commit_payloads.specs.declared.definition.Definition.{Definition}
use Rattle.commit_payloads.specs.declared.payload.Payload.{Payload}
use Rattle.commit_payloads.specs.declared.payload.Payload.TheVariants as payload
use Rattle.commit_payloads.specs.declared.take.Refresh.{Refresh}
use Rattle.commit_payloads.specs.declared.take.Take.{Take}
use Rattle.state_model.specs.After.{after_payload, events_with}
use Rattle.state_model.specs.Saved.{compacted, saved}
use Rattle.state_model.specs.Dataset.{Dataset, State, changes_after, content, cursor_of, dataset_of, definitions_of, version_of}
use Rattle.state_model.specs.Follows.{FitsReset, MovesOn, counts_fit}
use Rattle.state_steps.specs.Consumed.{rows_of_files}
use Rattle.state_steps.specs.Parts.{AreTyped, IsOf, stored_origin, streams_of}

-- ---- a batch

-- these are the rows between two cursors: those of the lines between the places, in some order; the whole content of a table
-- that was never read; else the rows that were added since
abbrev pub AreBetween : List LandingFile → State → Origin → Cursor → Cursor → List Row → Type 0
AreBetween ever state (origin.Files dir shape) (Files old) (Files new) rows = SameBag (rows_of_files shape dir ever old ++ rows) (rows_of_files shape dir ever new)
AreBetween ever state (origin.Table name) Never (At version) rows = IsSomeAnd (dataset_of state name) (λ source. (version ≡ version_of source) × (rows ≡ in_row_order (content source)))
AreBetween ever state (origin.Table name) (At old) (At version) rows = IsSomeAnd (dataset_of state name) (λ source. (version ≡ version_of source) × (rows ≡ all_added (changes_after source old)))
AreBetween ever state from old new rows = ⊥

-- a cursor to which a flow may go on: the ends of complete lines, or the version of its source now
abbrev pub EndsNow : List LandingFile → State → Origin → Cursor → Type 0
EndsNow ever state (origin.Files dir shape) (Files places) = IsPlaces places × AreEnds dir ever places
EndsNow ever state (origin.Table name) (At version) = IsSomeAnd (dataset_of state name) (λ source. version ≡ version_of source)
EndsNow ever state from cursor = ⊥

-- the rows that a flow goes on by
pub record GoesOn (ever : List LandingFile) (state : State) (from : Origin) (old new : Cursor) (rows : List Row) : Type 0 where
  pub ends : EndsNow ever state from new
  pub not_below : MovesOn state (stored_origin from) old new
  pub between : AreBetween ever state from old new rows

-- ---- a batch is taken

abbrev pub flow_named : List AppendFlow → List ℕ → Option AppendFlow
flow_named flows name = find (λ flow. same_name flow.name name) flows

pub record AppendTakes (ever : List LandingFile) (state : State) (xs : List Expectation) (flows : List AppendFlow) (dataset : Dataset) (batch : Take) : Type 0 where
  pub flow : AppendFlow
  pub is_flow : flow_named flows batch.flow ≡ Some flow
  pub old : Cursor
  pub from : cursor_of dataset batch.flow ≡ Some old
  pub rows : List Row
  pub goes_on : GoesOn ever state flow.origin old batch.cursor rows
  pub runs : append_stop flow xs rows ≡ None
  pub change : batch.change ≡ change_of [] (in_row_order (append_out flow xs rows))
  pub counts_are : batch.counts ≡ counts xs (append_seen flow xs rows)
  pub within : counts_fit dataset.counts batch.counts ≡ true
  pub no_events : batch.events ≡ []

pub record FeedTakes (ever : List LandingFile) (state : State) (xs : List Expectation) (cdc : Cdc) (dataset : Dataset) (batch : Take) : Type 0 where
  pub is_flow : same_name cdc.name batch.flow ≡ true
  pub old : Cursor
  pub from : cursor_of dataset batch.flow ≡ Some old
  pub rows : List Row
  pub goes_on : GoesOn ever state cdc.origin old batch.cursor rows
  pub runs : feed_stop cdc xs rows dataset.events ≡ None
  pub events_are : batch.events ≡ fresh dataset.events (given cdc xs rows)
  pub change : batch.change ≡ net_change (content dataset) (target_rows cdc (events_with dataset.events batch.events))
  pub counts_are : batch.counts ≡ counts xs (feed_seen cdc xs rows)
  pub within : counts_fit dataset.counts batch.counts ≡ true

abbrev pub BodyTakes : List LandingFile → State → List Expectation → Body → Dataset → Take → Type 0
BodyTakes ever state xs (body.Append flows) dataset batch = AppendTakes ever state xs flows dataset batch
BodyTakes ever state xs (body.Cdc cdc) dataset batch = FeedTakes ever state xs cdc dataset batch
BodyTakes ever state xs (body.View query) dataset batch = ⊥

-- a dataset of the store under this name, with its parts
pub record IsFound (parts : List Part) (state : State) (name : List ℕ) (part : Part) (dataset : Dataset) : Type 0 where
  pub part_is : dataset_named parts name ≡ Some part
  pub dataset_is : dataset_of state name ≡ Some dataset

pub record Takes (parts : List Part) (ever : List LandingFile) (state : State) (batch : Take) : Type 0 where
  pub part : Part
  pub dataset : Dataset
  pub found : IsFound parts state batch.table part dataset
  pub takes : BodyTakes ever state part.expectations part.body dataset batch

-- ---- a view is refreshed

pub record ViewRefreshes (state : State) (xs : List Expectation) (query : Query) (dataset : Dataset) (refresh : Refresh) : Type 0 where
  pub source : Dataset
  pub source_is : dataset_of state query.origin ≡ Some source
  pub cursor_is : refresh.cursor ≡ At (version_of source)
  pub result : Viewed
  pub gives : viewed query xs (content source) ≡ Ok result
  pub change : refresh.change ≡ net_change (content dataset) result.rows
  pub counts_are : refresh.counts ≡ result.counts
  pub within : counts_fit (counts xs []) refresh.counts ≡ true

abbrev pub BodyRefreshes : State → List Expectation → Body → Dataset → Refresh → Type 0
BodyRefreshes state xs (body.View query) dataset refresh = ViewRefreshes state xs query dataset refresh
BodyRefreshes state xs other dataset refresh = ⊥

pub record Refreshes (parts : List Part) (state : State) (refresh : Refresh) : Type 0 where
  pub part : Part
  pub dataset : Dataset
  pub found : IsFound parts state refresh.view part dataset
  pub refreshes : BodyRefreshes state part.expectations part.body dataset refresh

-- ---- datasets are reset

-- a dataset of this name is one of those of these names
abbrev pub is_named_in : List (List ℕ) → List ℕ → Bool
is_named_in names other = list_any (λ name. same_name other name) names

-- a stream that reads one of them is itself one of them
abbrev pub TakesAlong : List (List ℕ) → Part → Origin → Type 0
TakesAlong names part (origin.Files dir shape) = ⊤
TakesAlong names part (origin.Table source) = is_named_in names source ≡ true → is_named_in names part.name ≡ true

abbrev pub TakesAllAlong : List (List ℕ) → Part → List Origin → Type 0
TakesAllAlong names part [] = ⊤
TakesAllAlong names part (from ∷ origins) = TakesAlong names part from × TakesAllAlong names part origins

-- these names hold every table that streams from one of them
abbrev pub AreClosed : List (List ℕ) → List Part → Type 0
AreClosed names [] = ⊤
AreClosed names (part ∷ parts) = TakesAllAlong names part (streams_of part.body) × AreClosed names parts

-- a set of datasets of the store, with every table that streams from one of them
pub record Resets (parts : List Part) (state : State) (names : List (List ℕ)) : Type 0 where
  pub closed : AreClosed names parts
  pub are_set : FitsReset state names

-- ---- definitions

-- one part a definition
abbrev pub AreOf : List Part → List Definition → Type 0
AreOf [] [] = ⊤
AreOf (part ∷ parts) (definition ∷ list) = IsOf part definition × AreOf parts list
AreOf parts list = ⊥

-- the parts of the datasets that begin: all of them, or those behind the ones that are there
abbrev pub Begin : Bool → List Part → List Part → State → List Definition → Type 0
Begin true parts new state list = AreOf new list
Begin false parts new state list = (take (length state) list ≡ definitions_of state) × ((more : List Part) × (new ≡ parts ++ more) × AreOf more (drop (length state) list))

pub record Defines (parts new : List Part) (state : State) (is_fresh : Bool) (list : List Definition) : Type 0 where
  pub sound : IsSoundPlan new
  pub begins : Begin is_fresh parts new state list
  pub typed : AreTyped new new list

-- ---- steps

-- when a payload may be committed, and the parts of the datasets after it; what it makes of the state is `after_payload`
abbrev pub Commits : List Part → List LandingFile → State → Payload → List Part → Type 0
Commits parts ever state (payload.Define is_fresh list) new = Defines parts new state is_fresh list
Commits parts ever state (payload.Take batch) new = (new ≡ parts) × Takes parts ever state batch
Commits parts ever state (payload.Refresh refresh) new = (new ≡ parts) × Refreshes parts state refresh
Commits parts ever state (payload.Reset names) new = (new ≡ parts) × Resets parts state names
Commits parts ever state (payload.Base base) new = (new ≡ parts) × (base ≡ saved (compacted state))

-- a store with the parts of its datasets, beside all bytes that the landing files have ever held
pub record Situation : Type 0 where
  pub parts : List Part
  pub ever : List LandingFile
  pub state : State

-- one step: a commit, or files that grow, appear or go
pub data Step : Situation → Situation → Type 0 where
  Commit : (parts new : List Part) (ever : List LandingFile) (state : State) (body : Payload) → Commits parts ever state body new
      → Step (record { parts = parts; ever = ever; state = state }) (record { parts = new; ever = ever; state = after_payload state body })
  Grow : (parts : List Part) (ever now : List LandingFile) (state : State) → HaveGrown ever now
      → Step (record { parts = parts; ever = ever; state = state }) (record { parts = parts; ever = now; state = state })

-- steps one after the other
pub data Steps : Situation → Situation → Type 0 where
  Done : (at : Situation) → Steps at at
  More : (first next last : Situation) → Step first next → Steps next last → Steps first last
