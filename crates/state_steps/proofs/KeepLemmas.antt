-- A dataset whose sources keep what it consumed of them stands as before.
use Rattle.std.proofs.Common.{◌≡◌, List, [], ◌∷◌, map, ℕ, refl, sym, ap, subst, flat_map, Option, Some, None}
use Rattle.std.specs.Prelude.{⊤, IsSomeAnd}
use Rattle.value_core.specs.declared.cursor.Cursor.{Cursor}
use Rattle.value_core.specs.declared.cursor.Cursor.TheVariants.{Files, At, Never}
use Rattle.value_core.specs.Bags.{SameBag}
use Rattle.value_core.specs.declared.shape.Shape.{Shape}
use Rattle.landing_core.specs.declared.landing.LandingFile.{LandingFile}
use Rattle.landing_history.specs.Taken.{HaveGrown}
use Rattle.landing_history.proofs.GrowthLemmas.{ends_kept, taken_kept}
use Rattle.plan_core.specs.declared.expectation.Expectation.{Expectation}
use Rattle.plan_core.specs.declared.flow.AppendFlow.{AppendFlow}
use Rattle.plan_core.specs.declared.flow.Cdc.{Cdc}
use Rattle.plan_core.specs.declared.flow.Origin.{Origin}
use Rattle.plan_core.specs.declared.flow.Origin.TheVariants as origin
use Rattle.plan_core.specs.declared.plan.Body.{Body}
use Rattle.plan_core.specs.declared.plan.Body.TheVariants as body
use Rattle.plan_core.specs.declared.plan.Dataset.{Dataset as Part}
use Rattle.plan_core.specs.declared.query.Query.{Query}
use Rattle.flow_model.specs.Admission.{counts}
use Rattle.state_model.specs.Dataset.{Dataset, State, content, dataset_of}
use Rattle.state_steps.specs.Consumed.{consumed, row_of_line, CursorStands, IsKept, IsStreamed, StreamStands, StreamsStand}
use Rattle.state_steps.specs.Stands.{AllRunThrough, AppendStands, BodyStands, DatasetStands, FeedStands, Shows, ShowsAt, ViewStands, origins_of, out_of, seen_of, takings}
use Rattle.state_steps.specs.Parts.{streams_of}
use Rattle.state_steps.proofs.Lookups.{Goes, rows_stay, some_and}
use Rattle.state_steps.proofs.VersionLemmas.{IsMore, IsStreamedOn, still_kept, still_streamed}

module _ (was_ever now_ever : List LandingFile) (was now : State) where
  -- what a flow over this origin consumed stays, wherever it stands
  abbrev pub Keeps : Origin → Type 0
  Keeps from = (cursor : Cursor) → StreamStands was_ever was from cursor → StreamStands now_ever now from cursor × (consumed now_ever now from cursor ≡ consumed was_ever was from cursor)

  abbrev pub KeepsAll : List Origin → Type 0
  KeepsAll [] = ⊤
  KeepsAll (from ∷ origins) = Keeps from × KeepsAll origins

  -- a version of a dataset stays
  abbrev pub KeepsVersions : List ℕ → Type 0
  KeepsVersions name = Goes IsMore was now name

  pub takings_stay : (flows : List AppendFlow) (cursors : List Cursor) → KeepsAll (origins_of flows) → StreamsStand was_ever was (origins_of flows) cursors
      → StreamsStand now_ever now (origins_of flows) cursors × (takings now_ever now flows cursors ≡ takings was_ever was flows cursors)
  takings_stay [] [] keeps stand = (tt, refl)
  takings_stay [] (cursor ∷ cursors) keeps stand = absurd stand
  takings_stay (flow ∷ flows) [] keeps stand = absurd stand
  takings_stay (flow ∷ flows) (cursor ∷ cursors) keeps stand =
      let first = keeps.0 cursor stand.0 in
      let behind = takings_stay flows cursors keeps.1 stand.1 in
      ((first.0, behind.0), λ i. record { flow = flow; rows = first.1 i } ∷ behind.1 i)

  append_stays : (xs : List Expectation) (flows : List AppendFlow) (dataset : Dataset) → KeepsAll (origins_of flows) → AppendStands was_ever was xs flows dataset → AppendStands now_ever now xs flows dataset
  append_stays xs flows dataset keeps stands =
      let both = takings_stay flows dataset.cursors keeps stands.reads in
      record {
        reads = both.0;
        runs = subst (AllRunThrough xs) (sym both.1) stands.runs;
        content_is = subst (λ t. SameBag (content dataset) (flat_map (out_of xs) t)) (sym both.1) stands.content_is;
        counts_are = subst (λ t. dataset.counts ≡ counts xs (flat_map (seen_of xs) t)) (sym both.1) stands.counts_are;
      }

  feed_stays : (xs : List Expectation) (cdc : Cdc) (dataset : Dataset) → Keeps cdc.origin → FeedStands was_ever was xs cdc dataset → FeedStands now_ever now xs cdc dataset
  feed_stays xs cdc dataset keeps stands =
      let both = keeps stands.cursor stands.reads in
      record {
        cursor = stands.cursor;
        one_flow = stands.one_flow;
        reads = both.0;
        runs = rw both.1 stands.runs;
        kept = rw both.1 stands.kept;
        content_is = rw both.1 stands.content_is;
        counts_are = rw both.1 stands.counts_are;
      }

  pub cursor_stays : (name : List ℕ) (cursor : Cursor) → KeepsVersions name → CursorStands was_ever was (origin.Table name) cursor → CursorStands now_ever now (origin.Table name) cursor
  cursor_stays name (Files places) keeps stands = absurd stands
  cursor_stays name Never keeps stands = tt
  cursor_stays name (At v) keeps stands = some_and IsMore (IsKept v) (IsKept v) (dataset_of was name) (dataset_of now name) keeps (λ a b m k. still_kept v a b m k) stands

  shows_stays : (xs : List Expectation) (query : Query) (dataset : Dataset) (cursor : Cursor) → KeepsVersions query.origin → CursorStands was_ever was (origin.Table query.origin) cursor
      → ShowsAt was xs query dataset cursor → ShowsAt now xs query dataset cursor
  shows_stays xs query dataset (Files places) keeps stands shows = absurd shows
  shows_stays xs query dataset Never keeps stands shows = shows
  shows_stays xs query dataset (At v) keeps stands shows = subst (λ rows. Shows query xs rows dataset) (sym (rows_stay was now query.origin v keeps stands)) shows

  view_stays : (xs : List Expectation) (query : Query) (dataset : Dataset) → KeepsVersions query.origin → ViewStands was_ever was xs query dataset → ViewStands now_ever now xs query dataset
  view_stays xs query dataset keeps stands = record {
    cursor = stands.cursor;
    one_flow = stands.one_flow;
    reads = cursor_stays query.origin stands.cursor keeps stands.reads;
    shows = shows_stays xs query dataset stands.cursor keeps stands.reads stands.shows;
  }

  body_stays : (xs : List Expectation) (b : Body) (dataset : Dataset) → KeepsAll (streams_of b) → ((name : List ℕ) → KeepsVersions name) → BodyStands was_ever was xs b dataset → BodyStands now_ever now xs b dataset
  body_stays xs (body.Append flows) dataset keeps versions stands = append_stays xs flows dataset keeps stands
  body_stays xs (body.Cdc cdc) dataset keeps versions stands = feed_stays xs cdc dataset keeps.0 stands
  body_stays xs (body.View query) dataset keeps versions stands = view_stays xs query dataset (versions query.origin) stands

  -- a dataset that stays itself stands still where its streams keep what they consumed
  pub dataset_stays : (part : Part) (dataset : Dataset) → KeepsAll (streams_of part.body) → ((name : List ℕ) → KeepsVersions name) → DatasetStands was_ever was part dataset → DatasetStands now_ever now part dataset
  dataset_stays part dataset keeps versions stands = record { is_of = stands.is_of; fills = body_stays part.expectations part.body dataset keeps versions stands.fills }

-- ---- when an origin keeps what was consumed of it

kept_of : (v : ℕ) (o : Option Dataset) → IsSomeAnd o (IsStreamed v) → IsSomeAnd o (IsKept v)
kept_of v None h = h
kept_of v (Some d) h = h.0

-- a dataset that gained versions that remove no row
pub table_keeps : (was_ever now_ever : List LandingFile) (was now : State) (name : List ℕ) → Goes IsStreamedOn was now name → Keeps was_ever now_ever was now (origin.Table name)
table_keeps was_ever now_ever was now name go (Files places) stands = absurd stands
table_keeps was_ever now_ever was now name go Never stands = (tt, refl)
table_keeps was_ever now_ever was now name go (At v) stands = (
  some_and IsStreamedOn (IsStreamed v) (IsStreamed v) (dataset_of was name) (dataset_of now name) go (λ a b s k. still_streamed v a b s k) stands,
  rows_stay was now name v (λ old e. let g = go old e in (g.0, g.1, g.2.is_more)) (kept_of v (dataset_of was name) stands),
)

-- files of which no more was seen
pub files_keep : (ever : List LandingFile) (was now : State) (dir : List ℕ) (shape : Shape) → Keeps ever ever was now (origin.Files dir shape)
files_keep ever was now dir shape (Files places) stands = (stands, refl)
files_keep ever was now dir shape (At v) stands = absurd stands
files_keep ever was now dir shape Never stands = absurd stands

-- files that grew
pub files_grow : (ever more : List LandingFile) (was now : State) → HaveGrown ever more → (dir : List ℕ) (shape : Shape) → Keeps ever more was now (origin.Files dir shape)
files_grow ever more was now grown dir shape (Files places) stands =
    ((stands.0, ends_kept dir ever more places grown stands.1), ap (map (row_of_line shape)) (taken_kept shape.format shape.header dir ever more places grown stands.1))
files_grow ever more was now grown dir shape (At v) stands = absurd stands
files_grow ever more was now grown dir shape Never stands = absurd stands

-- ---- a list of origins

-- each dataset that these origins read goes on
abbrev pub AllGo : State → State → List Origin → Type 0
AllGo was now [] = ⊤
AllGo was now (origin.Files dir shape ∷ origins) = AllGo was now origins
AllGo was now (origin.Table name ∷ origins) = Goes IsStreamedOn was now name × AllGo was now origins

pub origins_keep : (ever : List LandingFile) (was now : State) (origins : List Origin) → AllGo was now origins → KeepsAll ever ever was now origins
origins_keep ever was now [] go = tt
origins_keep ever was now (origin.Files dir shape ∷ origins) go = (files_keep ever was now dir shape, origins_keep ever was now origins go)
origins_keep ever was now (origin.Table name ∷ origins) go = (table_keeps ever ever was now name go.0, origins_keep ever was now origins go.1)

pub origins_grow : (ever more : List LandingFile) (was now : State) → HaveGrown ever more → (origins : List Origin) → AllGo was now origins → KeepsAll ever more was now origins
origins_grow ever more was now grown [] go = tt
origins_grow ever more was now grown (origin.Files dir shape ∷ origins) go = (files_grow ever more was now grown dir shape, origins_grow ever more was now grown origins go)
origins_grow ever more was now grown (origin.Table name ∷ origins) go = (table_keeps ever more was now name go.0, origins_grow ever more was now grown origins go.1)
