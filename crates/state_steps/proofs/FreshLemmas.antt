-- A store that stands and has consumed all is what a full refresh gives.
use Rattle.std.proofs.Common.{◌≡◌, ℕ, List, [], ◌∷◌, map, Bool, true, false, cond, if◌then◌else◌, Option, Some, None, refl, sym, ap, ◌∙◌, subst, arith, flat_map}
use Rattle.std.specs.Prelude.{⊤, filter_map, IsSomeAnd}
use Rattle.std.specs.Option.{option_map_or}
use Rattle.row_expr.specs.Eval.{and_then}
use Rattle.value_core.specs.declared.cursor.Cursor.{Cursor}
use Rattle.value_core.specs.declared.cursor.Cursor.TheVariants.{Files, At, Never}
use Rattle.value_core.specs.Bags.{SameBag, count_of}
use Rattle.value_core.specs.NameFold.{same_name}
use Rattle.value_core.specs.Order.{Row, same_row}
use Rattle.value_core.proofs.BagLemmas.{count-in_row_order, same_list}
use Rattle.plan_core.specs.declared.expectation.Expectation.{Expectation}
use Rattle.plan_core.specs.declared.flow.AppendFlow.{AppendFlow}
use Rattle.plan_core.specs.declared.flow.Cdc.{Cdc}
use Rattle.plan_core.specs.declared.flow.Origin.{Origin}
use Rattle.plan_core.specs.declared.flow.Origin.TheVariants as origin
use Rattle.plan_core.specs.declared.plan.Body.{Body}
use Rattle.plan_core.specs.declared.plan.Body.TheVariants as body
use Rattle.plan_core.specs.declared.plan.Dataset.{Dataset as Part}
use Rattle.plan_core.specs.declared.query.Query.{Query}
use Rattle.flow_model.specs.Append.{judged, kept_of, seen_of}
use Rattle.flow_model.specs.Feed.{events, reading, upsert_in}
use Rattle.flow_model.specs.Target.{target_rows}
use Rattle.flow_model.specs.Views.{ask_in_order, judged_view}
use Rattle.flow_model.proofs.AppendLemmas.{counts_bag, counts_move, stop_moves}
use Rattle.flow_model.proofs.BagTools.{bag_moves, parts_move}
use Rattle.flow_model.proofs.FeedLemmas.{events_move, feed_stop_moves}
use Rattle.state_model.specs.Dataset.{Dataset, State, content, content_at, dataset_of, version_of}
use Rattle.state_steps.specs.Consumed.{consumed, rows_of_files, rows_of_table}
use Rattle.state_steps.specs.Fresh.{AllAtEnd, AllFresh, AreAtEnd, IsAtEnd, IsFresh, IsFreshAppend, IsFreshBody, IsFreshFeed, IsFreshView, Landed, Table, all_of, full_takings, reads_of, rows_named, table_named, table_of}
use Rattle.state_steps.specs.Stands.{AllRunThrough, AllStand, AppendStands, BodyStands, FeedStands, ShowsAt, Stands, Taking, origins_of, out_of, takings}
use Rattle.state_steps.specs.Stands as stands
use Rattle.state_steps.proofs.BatchLemmas.{at_now}
use Rattle.state_steps.proofs.Lookups.{some_same}
use Rattle.state_steps.proofs.VersionLemmas.{count-append}

-- ---- the tables of a store, by name

module _ (landed : Landed) (parts : List Part) (state : State) (all : AllStand landed.ever state parts state) where
  abbrev tables : List Table
  tables = map table_of state

  found_by : (name : List ℕ) (p : Part) (ps : List Part) (d : Dataset) (ds : State) (here : Bool) → (dataset_of ds name ≡ Some d → ⊤)
      → ((found : Dataset) → dataset_of ds name ≡ Some found → table_named ps (map table_of ds) name ≡ Some (table_of found))
      → (found : Dataset) → cond here (Some d) (dataset_of ds name) ≡ Some found → (if here then Some (table_of d) else table_named ps (map table_of ds) name) ≡ Some (table_of found)
  found_by name p ps d ds true u behind found e = ap (λ w. Some (table_of w)) (some_same d found e)
  found_by name p ps d ds false u behind found e = behind found e

  found_in : (name : List ℕ) (ps : List Part) (ds : State) → AllStand landed.ever state ps ds → (found : Dataset) → dataset_of ds name ≡ Some found → table_named ps (map table_of ds) name ≡ Some (table_of found)
  found_in name [] [] h found e = cc
  found_in name [] (d ∷ ds) h found e = absurd h
  found_in name (p ∷ ps) [] h found e = absurd h
  found_in name (p ∷ ps) (d ∷ ds) h found e =
      found_by name p ps d ds (same_name p.name name) (λ u. tt) (found_in name ps ds h.1) found
      (ap (λ (k : List ℕ). cond (same_name k name) (Some d) (dataset_of ds name)) (sym h.0.is_of.name) ∙ e)

  -- ---- what is consumed at the end

  table_by : (o : Option Dataset) (v : ℕ) (t : Option Table) → IsSomeAnd o (λ source. v ≡ version_of source) → ((found : Dataset) → o ≡ Some found → t ≡ Some (table_of found))
      → SameBag (option_map_or (λ d. content_at d v) o []) (option_map_or (λ table. table.rows) t [])
  table_by None v t h go a = absurd h
  table_by (Some source) v t h go a =
      ap (count_of a) (at_now source v h) ∙ sym (count-in_row_order a (content source)) ∙ ap (λ w. count_of a (option_map_or (λ (table : Table). table.rows) w [])) (sym (go source refl))

  same_consumed : (from : Origin) (cursor : Cursor) → IsAtEnd landed state from cursor → SameBag (consumed landed.ever state from cursor) (all_of landed parts tables from)
  same_consumed (origin.Files dir shape) (Files places) ends a = ap (λ p. count_of a (rows_of_files shape dir landed.ever p)) ends
  same_consumed (origin.Table name) (At v) ends a = table_by (dataset_of state name) v (table_named parts tables name) ends (found_in name parts state all) a
  same_consumed from cursor ends a = absurd ends

  -- ---- append tables

  module _ (xs : List Expectation) where
    all_run : (flows : List AppendFlow) (cursors : List Cursor) → AreAtEnd landed state (origins_of flows) cursors → AllRunThrough xs (takings landed.ever state flows cursors) → AllRunThrough xs (full_takings landed parts tables flows)
    all_run [] [] ends runs = tt
    all_run [] (c ∷ cs) ends runs = absurd ends
    all_run (f ∷ fs) [] ends runs = absurd ends
    all_run (f ∷ fs) (c ∷ cs) ends runs =
        (stop_moves f xs (consumed landed.ever state f.origin c) (all_of landed parts tables f.origin) (same_consumed f.origin c ends.0) runs.0, all_run fs cs ends.1 runs.1)

    module _ (h : AppendFlow → Row → Option Row) where
      abbrev Picked : List Taking → List Row
      Picked list = flat_map (λ taking. filter_map (h taking.flow) taking.rows) list

      all_picked : (flows : List AppendFlow) (cursors : List Cursor) → AreAtEnd landed state (origins_of flows) cursors → SameBag (Picked (takings landed.ever state flows cursors)) (Picked (full_takings landed parts tables flows))
      all_picked [] [] ends a = refl
      all_picked [] (c ∷ cs) ends a = absurd ends
      all_picked (f ∷ fs) [] ends a = absurd ends
      all_picked (f ∷ fs) (c ∷ cs) ends a =
          let was = consumed landed.ever state f.origin c in
          let now = all_of landed parts tables f.origin in
          let first : count_of a (filter_map (h f) was) ≡ count_of a (filter_map (h f) now) = parts_move (λ x. cond (same_row a x) 1 0) (h f) was now (bag_moves was now (same_consumed f.origin c ends.0)) in
          omega (arith, first, all_picked fs cs ends.1 a, count-append a (filter_map (h f) was) (Picked (takings landed.ever state fs cs)), count-append a (filter_map (h f) now) (Picked (full_takings landed parts tables fs)))

  fresh_append : (xs : List Expectation) (flows : List AppendFlow) (dataset : Dataset) → AreAtEnd landed state (origins_of flows) dataset.cursors → AppendStands landed.ever state xs flows dataset
      → IsFreshAppend landed parts tables xs flows (table_of dataset)
  fresh_append xs flows dataset ends stood =
      let out = flat_map (out_of xs) (takings landed.ever state flows dataset.cursors) in
      let seen = flat_map (stands.seen_of xs) (takings landed.ever state flows dataset.cursors) in
      record {
        runs = all_run xs flows dataset.cursors ends stood.runs;
        rows_are =
            same_list (content dataset) (flat_map (out_of xs) (full_takings landed parts tables flows))
            (λ a. stood.content_is a ∙ all_picked xs (λ flow row. kept_of (judged flow xs row)) flows dataset.cursors ends a);
        counts_are =
            stood.counts_are
            ∙ counts_bag xs seen (flat_map (stands.seen_of xs) (full_takings landed parts tables flows)) (all_picked xs (λ flow row. seen_of (judged flow xs row)) flows dataset.cursors ends);
      }

  -- ---- tables of a change feed, and views

  fresh_feed : (xs : List Expectation) (cdc : Cdc) (dataset : Dataset) → AreAtEnd landed state (cdc.origin ∷ []) dataset.cursors → FeedStands landed.ever state xs cdc dataset
      → IsFreshFeed landed parts tables xs cdc (table_of dataset)
  fresh_feed xs cdc dataset ends stood =
      let end : IsAtEnd landed state cdc.origin stood.cursor = (subst (AreAtEnd landed state (cdc.origin ∷ [])) stood.one_flow ends).0 in
      let was = consumed landed.ever state cdc.origin stood.cursor in
      let now = all_of landed parts tables cdc.origin in
      let same : SameBag was now = same_consumed cdc.origin stood.cursor end in
      record {
        runs = feed_stop_moves cdc xs was now same stood.runs;
        rows_are = same_list (content dataset) (target_rows cdc (events cdc xs now)) (λ a. stood.content_is a ∙ ap (λ es. count_of a (target_rows cdc es)) (events_move cdc xs was now same stood.runs));
        counts_are = stood.counts_are ∙ counts_move (λ row. upsert_in (reading cdc xs row)) was now same xs;
      }

  view_by : (xs : List Expectation) (query : Query) (dataset : Dataset) (cursor : Cursor) → IsAtEnd landed state (origin.Table query.origin) cursor → ShowsAt state xs query dataset cursor
      → IsFreshView landed parts tables xs query (table_of dataset)
  view_by xs query dataset (Files places) end shows = absurd end
  view_by xs query dataset Never end shows = absurd end
  view_by xs query dataset (At v) end shows =
      let was = rows_of_table state query.origin v in
      let now = rows_named parts tables query.origin in
      let same : SameBag was now = same_consumed (origin.Table query.origin) (At v) end in
      record {
        result = shows.result;
        gives = ap (λ ordered. and_then (judged_view xs) (ask_in_order query ordered)) (sym (same_list was now same)) ∙ shows.gives;
        rows_are = same_list (content dataset) shows.result.rows shows.content_is;
        counts_are = shows.counts_are;
      }

  fresh_body : (xs : List Expectation) (b : Body) (dataset : Dataset) → AreAtEnd landed state (reads_of b) dataset.cursors → BodyStands landed.ever state xs b dataset → IsFreshBody landed parts tables xs b (table_of dataset)
  fresh_body xs (body.Append flows) dataset ends stood = fresh_append xs flows dataset ends stood
  fresh_body xs (body.Cdc cdc) dataset ends stood = fresh_feed xs cdc dataset ends stood
  fresh_body xs (body.View query) dataset ends stood =
      view_by xs query dataset stood.cursor (subst (AreAtEnd landed state (origin.Table query.origin ∷ [])) stood.one_flow ends).0 stood.shows

  fresh_all : (ps : List Part) (ds : State) → AllAtEnd landed state ps ds → AllStand landed.ever state ps ds → AllFresh landed parts tables ps (map table_of ds)
  fresh_all [] [] ends h = tt
  fresh_all [] (d ∷ ds) ends h = absurd h
  fresh_all (p ∷ ps) [] ends h = absurd h
  fresh_all (p ∷ ps) (d ∷ ds) ends h = (fresh_body p.expectations p.body d ends.0 h.0.fills, fresh_all ps ds ends.1 h.1)

pub is_fresh : (landed : Landed) (parts : List Part) (state : State) → Stands parts landed.ever state → AllAtEnd landed state parts state → IsFresh landed parts (map table_of state)
is_fresh landed parts state stood ends = fresh_all landed parts state stood.each parts state ends stood.each
