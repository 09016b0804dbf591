-- What a store stands for.
use Rattle.std.specs.Prelude.{◌≡◌, ⊤, List, [], ◌∷◌, map, flat_map, None, Ok}
use Rattle.value_core.specs.declared.cursor.Cursor.{Cursor}
use Rattle.value_core.specs.declared.cursor.Cursor.TheVariants.{Files, At, Never}
use Rattle.value_core.specs.Bags.{SameBag}
use Rattle.value_core.specs.Order.{Row}
use Rattle.landing_core.specs.declared.landing.LandingFile.{LandingFile}
use Rattle.plan_core.specs.declared.expectation.Expectation.{Expectation}
use Rattle.plan_core.specs.declared.flow.AppendFlow.{AppendFlow}
use Rattle.plan_core.specs.declared.flow.Cdc.{Cdc}
use Rattle.plan_core.specs.declared.flow.Origin.{Origin}
use Rattle.plan_core.specs.declared.flow.Origin.TheVariants as origin
use Rattle.plan_core.specs.declared.plan.Body.{Body}
use Rattle.plan_core.specs.declared.plan.Body.TheVariants as body
use Rattle.plan_core.specs.declared.plan.Dataset.{Dataset as Part}
use Rattle.plan_core.specs.declared.query.Query.{Query}
use Rattle.plan_core.specs.Sound.{IsSoundPlan}
use Rattle.flow_model.specs.Admission.{counts}
use Rattle.flow_model.specs.Append.{append_out, append_seen, append_stop}
use Rattle.flow_model.specs.Feed.{events, feed_seen, feed_stop}
use Rattle.flow_model.specs.Target.{target_rows}
use Rattle.flow_model.specs.Views.{Viewed, viewed}
use Rattle.state_model.specs.Dataset.{Dataset, State, content}
use Rattle.state_steps.specs.Consumed.{consumed, rows_of_table, CursorStands, StreamStands, StreamsStand}
use Rattle.state_steps.specs.Parts.{IsOf}

-- ---- an append table

-- rows that an append flow has taken
pub record Taking : Type 0 where
  pub flow : AppendFlow
  pub rows : List Row

-- what each flow has taken
abbrev pub takings : List LandingFile → State → List AppendFlow → List Cursor → List Taking
takings ever state [] cursors = []
takings ever state (flow ∷ flows) [] = []
takings ever state (flow ∷ flows) (cursor ∷ cursors) = record { flow = flow; rows = consumed ever state flow.origin cursor } ∷ takings ever state flows cursors

abbrev pub out_of : List Expectation → Taking → List Row
out_of xs taking = append_out taking.flow xs taking.rows

abbrev pub seen_of : List Expectation → Taking → List Row
seen_of xs taking = append_seen taking.flow xs taking.rows

abbrev pub RunsThrough : List Expectation → Taking → Type 0
RunsThrough xs taking = append_stop taking.flow xs taking.rows ≡ None

abbrev pub AllRunThrough : List Expectation → List Taking → Type 0
AllRunThrough xs [] = ⊤
AllRunThrough xs (taking ∷ more) = RunsThrough xs taking × AllRunThrough xs more

abbrev pub origins_of : List AppendFlow → List Origin
origins_of flows = map (λ flow. flow.origin) flows

-- its rows are those that its flows give for what they took, which has no stop, and its counts are over what was judged of it
pub record AppendStands (ever : List LandingFile) (state : State) (xs : List Expectation) (flows : List AppendFlow) (dataset : Dataset) : Type 0 where
  pub reads : StreamsStand ever state (origins_of flows) dataset.cursors
  pub runs : AllRunThrough xs (takings ever state flows dataset.cursors)
  pub content_is : SameBag (content dataset) (flat_map (out_of xs) (takings ever state flows dataset.cursors))
  pub counts_are : dataset.counts ≡ counts xs (flat_map (seen_of xs) (takings ever state flows dataset.cursors))

-- ---- a table of a change feed

-- its kept events are those of the rows that it took, which have no stop, its rows are SCD type 1 or 2 of them, and its
-- counts are over the upserts
pub record FeedStands (ever : List LandingFile) (state : State) (xs : List Expectation) (cdc : Cdc) (dataset : Dataset) : Type 0 where
  pub cursor : Cursor
  pub one_flow : dataset.cursors ≡ cursor ∷ []
  pub reads : StreamStands ever state cdc.origin cursor
  pub runs : feed_stop cdc xs (consumed ever state cdc.origin cursor) [] ≡ None
  pub kept : dataset.events ≡ events cdc xs (consumed ever state cdc.origin cursor)
  pub content_is : SameBag (content dataset) (target_rows cdc (events cdc xs (consumed ever state cdc.origin cursor)))
  pub counts_are : dataset.counts ≡ counts xs (feed_seen cdc xs (consumed ever state cdc.origin cursor))

-- ---- a view

-- it shows what its query gives for these rows, without a stop
pub record Shows (query : Query) (xs : List Expectation) (rows : List Row) (dataset : Dataset) : Type 0 where
  pub result : Viewed
  pub gives : viewed query xs rows ≡ Ok result
  pub content_is : SameBag (content dataset) result.rows
  pub counts_are : dataset.counts ≡ result.counts

-- it shows its source as it was at its cursor; where that is never, it is empty
abbrev pub ShowsAt : State → List Expectation → Query → Dataset → Cursor → Type 0
ShowsAt state xs query dataset Never = SameBag (content dataset) [] × (dataset.counts ≡ counts xs [])
ShowsAt state xs query dataset (At version) = Shows query xs (rows_of_table state query.origin version) dataset
ShowsAt state xs query dataset (Files places) = ⊥

pub record ViewStands (ever : List LandingFile) (state : State) (xs : List Expectation) (query : Query) (dataset : Dataset) : Type 0 where
  pub cursor : Cursor
  pub one_flow : dataset.cursors ≡ cursor ∷ []
  pub reads : CursorStands ever state (origin.Table query.origin) cursor
  pub shows : ShowsAt state xs query dataset cursor

-- ---- a store

abbrev pub BodyStands : List LandingFile → State → List Expectation → Body → Dataset → Type 0
BodyStands ever state xs (body.Append flows) dataset = AppendStands ever state xs flows dataset
BodyStands ever state xs (body.Cdc cdc) dataset = FeedStands ever state xs cdc dataset
BodyStands ever state xs (body.View query) dataset = ViewStands ever state xs query dataset

-- a dataset of a store, with its parts
pub record DatasetStands (ever : List LandingFile) (state : State) (part : Part) (dataset : Dataset) : Type 0 where
  pub is_of : IsOf part dataset.definition
  pub fills : BodyStands ever state part.expectations part.body dataset

-- one part a dataset, and each stands beside the whole store
abbrev pub AllStand : List LandingFile → State → List Part → State → Type 0
AllStand ever state [] [] = ⊤
AllStand ever state (part ∷ parts) (dataset ∷ datasets) = DatasetStands ever state part dataset × AllStand ever state parts datasets
AllStand ever state parts datasets = ⊥

-- each dataset of the store is what its parts give, from scratch, for what it has consumed of `ever`, all bytes that the
-- landing files have ever held, and of the datasets
pub record Stands (parts : List Part) (ever : List LandingFile) (state : State) : Type 0 where
  pub sound : IsSoundPlan parts
  pub each : AllStand ever state parts state
