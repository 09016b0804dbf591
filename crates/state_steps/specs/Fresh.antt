-- What a full refresh gives, from scratch.
use Rattle.std.specs.Prelude.{◌≡◌, ⊤, ℕ, ◌<◌, List, [], ◌∷◌, map, flat_map, if◌then◌else◌, Option, Some, None, IsSomeAnd, Ok}
use Rattle.std.specs.Option.{option_map_or}
use Rattle.value_core.specs.declared.change.Tally.{Tally}
use Rattle.value_core.specs.declared.cursor.Cursor.{Cursor}
use Rattle.value_core.specs.declared.cursor.Cursor.TheVariants.{Files, At}
use Rattle.value_core.specs.Bags.{in_row_order}
use Rattle.value_core.specs.NameFold.{same_name}
use Rattle.value_core.specs.Order.{Row}
use Rattle.landing_core.specs.declared.landing.LandingFile.{LandingFile}
use Rattle.landing_core.specs.declared.landing.Listed.{Listed}
use Rattle.landing_core.specs.Fresh.{reach}
use Rattle.plan_core.specs.declared.expectation.Expectation.{Expectation}
use Rattle.plan_core.specs.declared.flow.AppendFlow.{AppendFlow}
use Rattle.plan_core.specs.declared.flow.Cdc.{Cdc}
use Rattle.plan_core.specs.declared.flow.Origin.{Origin}
use Rattle.plan_core.specs.declared.flow.Origin.TheVariants as origin
use Rattle.plan_core.specs.declared.plan.Body.{Body}
use Rattle.plan_core.specs.declared.plan.Body.TheVariants as body
use Rattle.plan_core.specs.declared.plan.Dataset.{Dataset as Part}
use Rattle.plan_core.specs.declared.query.Query.{Query}
use Rattle.plan_core.specs.Sound.{dataset_named}
use Rattle.flow_model.specs.Admission.{counts}
use Rattle.flow_model.specs.Feed.{events, feed_seen, feed_stop}
use Rattle.flow_model.specs.Target.{target_rows}
use Rattle.flow_model.specs.Views.{Viewed, viewed}
use Rattle.state_model.specs.Dataset.{Dataset, State, content, dataset_of, version_of}
use Rattle.state_steps.specs.Consumed.{rows_of_files}
use Rattle.state_steps.specs.Stands.{AllRunThrough, Taking, origins_of, out_of, seen_of}

-- what landing folders hold and list: what is there, all that was ever there, and the listing of each folder
pub record Landed : Type 0 where
  pub present : List LandingFile
  pub ever : List LandingFile
  pub listing : List ℕ → List Listed

-- the rows of a dataset in row order, and its counts
pub record Table : Type 0 where
  pub rows : List Row
  pub counts : List Tally

-- the table of a name, where there is one a part
abbrev pub table_named : List Part → List Table → List ℕ → Option Table
table_named [] tables name = None
table_named (part ∷ parts) [] name = None
table_named (part ∷ parts) (table ∷ tables) name = if same_name part.name name then Some table else table_named parts tables name

-- the rows of the table of a name
abbrev pub rows_named : List Part → List Table → List ℕ → List Row
rows_named plan tables name = option_map_or (λ table. table.rows) (table_named plan tables name) []

module _ (landed : Landed) (plan : List Part) (tables : List Table) where
  -- what a flow consumes: all lines up to where a first reading comes, or the rows of the table that it reads
  abbrev pub all_of : Origin → List Row
  all_of (origin.Files dir shape) = rows_of_files shape dir landed.ever (reach dir landed.present [] (landed.listing dir))
  all_of (origin.Table name) = rows_named plan tables name

  abbrev pub full_takings : List AppendFlow → List Taking
  full_takings flows = map (λ flow. record { flow = flow; rows = all_of flow.origin }) flows

  pub record IsFreshAppend (xs : List Expectation) (flows : List AppendFlow) (table : Table) : Type 0 where
    pub runs : AllRunThrough xs (full_takings flows)
    pub rows_are : table.rows ≡ in_row_order (flat_map (out_of xs) (full_takings flows))
    pub counts_are : table.counts ≡ counts xs (flat_map (seen_of xs) (full_takings flows))

  pub record IsFreshFeed (xs : List Expectation) (cdc : Cdc) (table : Table) : Type 0 where
    pub runs : feed_stop cdc xs (all_of cdc.origin) [] ≡ None
    pub rows_are : table.rows ≡ in_row_order (target_rows cdc (events cdc xs (all_of cdc.origin)))
    pub counts_are : table.counts ≡ counts xs (feed_seen cdc xs (all_of cdc.origin))

  pub record IsFreshView (xs : List Expectation) (query : Query) (table : Table) : Type 0 where
    pub result : Viewed
    pub gives : viewed query xs (rows_named plan tables query.origin) ≡ Ok result
    pub rows_are : table.rows ≡ in_row_order result.rows
    pub counts_are : table.counts ≡ result.counts

  abbrev pub IsFreshBody : List Expectation → Body → Table → Type 0
  IsFreshBody xs (body.Append flows) table = IsFreshAppend xs flows table
  IsFreshBody xs (body.Cdc cdc) table = IsFreshFeed xs cdc table
  IsFreshBody xs (body.View query) table = IsFreshView xs query table

  abbrev pub AllFresh : List Part → List Table → Type 0
  AllFresh [] [] = ⊤
  AllFresh (part ∷ parts) (table ∷ others) = IsFreshBody part.expectations part.body table × AllFresh parts others
  AllFresh parts others = ⊥

-- these are the tables, one a part, that a full refresh gives; there are none where something stops
abbrev pub IsFresh : Landed → List Part → List Table → Type 0
IsFresh landed plan tables = AllFresh landed plan tables plan tables

-- ---- a store that has consumed all

-- the table that a dataset is now
abbrev pub table_of : Dataset → Table
table_of dataset = record { rows = in_row_order (content dataset); counts = dataset.counts }

-- a cursor stands at the end: where a first reading comes, or at its source's version now
abbrev pub IsAtEnd : Landed → State → Origin → Cursor → Type 0
IsAtEnd landed state (origin.Files dir shape) (Files places) = places ≡ reach dir landed.present [] (landed.listing dir)
IsAtEnd landed state (origin.Table name) (At version) = IsSomeAnd (dataset_of state name) (λ source. version ≡ version_of source)
IsAtEnd landed state from cursor = ⊥

-- what is read is files, or a dataset of the plan of a level below this one
abbrev pub ReadsBelow : List Part → ℕ → Origin → Type 0
ReadsBelow plan level (origin.Files dir shape) = ⊤
ReadsBelow plan level (origin.Table name) = (source : Part) × (dataset_named plan name ≡ Some source) × (source.level < level)

abbrev pub AreAtEnd : Landed → State → List Origin → List Cursor → Type 0
AreAtEnd landed state [] [] = ⊤
AreAtEnd landed state (from ∷ origins) (cursor ∷ cursors) = IsAtEnd landed state from cursor × AreAtEnd landed state origins cursors
AreAtEnd landed state origins cursors = ⊥

-- all that a dataset reads, a view's source too
abbrev pub reads_of : Body → List Origin
reads_of (body.Append flows) = origins_of flows
reads_of (body.Cdc cdc) = cdc.origin ∷ []
reads_of (body.View query) = origin.Table query.origin ∷ []

abbrev pub AllAtEnd : Landed → State → List Part → State → Type 0
AllAtEnd landed state [] [] = ⊤
AllAtEnd landed state (part ∷ parts) (dataset ∷ datasets) = AreAtEnd landed state (reads_of part.body) dataset.cursors × AllAtEnd landed state parts datasets
AllAtEnd landed state parts datasets = ⊥
