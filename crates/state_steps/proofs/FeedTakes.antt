-- A batch makes of a table of a change feed what the feed gives for all that it consumed; a refresh makes of a view what its
-- query gives for its source now.
use Rattle.std.proofs.Common.{◌≡◌, List, [], ◌∷◌, ◌++◌, Bool, true, false, if◌then◌else◌, Option, Some, None, refl, sym, ap, ◌∙◌, subst, arith}
use Rattle.std.specs.Prelude.{IsSomeAnd}
use Rattle.std.specs.Option.{option_map_or}
use Rattle.value_core.specs.declared.change.Change.{Change}
use Rattle.value_core.specs.declared.cursor.Cursor.{Cursor}
use Rattle.value_core.specs.declared.cursor.Cursor.TheVariants.{At}
use Rattle.value_core.specs.declared.event.Event.{Event}
use Rattle.value_core.specs.Bags.{SameBag, changed, count_of, net_change}
use Rattle.value_core.specs.EventOrder.{event_order, sorted_by}
use Rattle.value_core.specs.NameFold.{same_name}
use Rattle.value_core.specs.Order.{Row}
use Rattle.value_core.proofs.BagLemmas.{count-in_row_order}
use Rattle.value_core.proofs.ChangeLemmas.{net_effect}
use Rattle.landing_core.specs.declared.landing.LandingFile.{LandingFile}
use Rattle.plan_core.specs.declared.expectation.Expectation.{Expectation}
use Rattle.plan_core.specs.declared.flow.Cdc.{Cdc}
use Rattle.plan_core.specs.declared.query.Query.{Query}
use Rattle.flow_model.specs.Admission.{counts}
use Rattle.flow_model.specs.Events.{fresh, IsClashFree}
use Rattle.flow_model.specs.Feed.{events, feed_seen, feed_stop, given, reading, upsert_in}
use Rattle.flow_model.specs.Target.{target_rows}
use Rattle.flow_model.specs.Views.{viewed}
use Rattle.flow_model.proofs.EventSorting.{one_event_order, same_free, sorting_keeps_events, sorting_keeps_times}
use Rattle.flow_model.proofs.FeedLemmas.{events_move, feed_stop_adds, feed_stop_moves, given_free, kept_add}
use Rattle.flow_model.proofs.FreshEvents.{fresh_once, fresh_same}
use Rattle.commit_payloads.specs.declared.take.Refresh.{Refresh}
use Rattle.commit_payloads.specs.declared.take.Take.{Take}
use Rattle.state_model.specs.After.{events_with, moved, refreshed, taken}
use Rattle.state_model.specs.Dataset.{Dataset, State, content, content_at, cursor_in, dataset_of, version_of}
use Rattle.value_core.specs.Tallies.{added}
use Rattle.state_steps.specs.Consumed.{consumed, rows_of_table, IsKept, StreamStands}
use Rattle.state_steps.specs.Parts.{stored_origin}
use Rattle.state_steps.specs.Stands.{FeedStands, Shows, ViewStands}
use Rattle.state_steps.specs.Steps.{FeedTakes, ViewRefreshes}
use Rattle.state_steps.proofs.BatchLemmas.{at_now, between_adds, ends_stream}
use Rattle.state_steps.proofs.Lookups.{some_same}
use Rattle.state_steps.proofs.TakeLemmas.{content_taken, counts_go_on, picked_adds}
use Rattle.state_steps.proofs.VersionLemmas.{content_after-append}

-- ---- one flow

one_cursor : (b : Bool) (cursor old : Cursor) (rest : Option Cursor) → b ≡ true → (if b then Some cursor else rest) ≡ Some old → cursor ≡ old
one_cursor true cursor old rest is e = some_same cursor old e
one_cursor false cursor old rest is e = cc

one_moved : (b : Bool) (cursor new : Cursor) (rest : List Cursor) → b ≡ true → (if b then new ∷ [] else cursor ∷ rest) ≡ new ∷ []
one_moved true cursor new rest is = refl
one_moved false cursor new rest is = cc

-- a bag after its net change to another
pub net_bag : (old new : List Row) (change : Change) → change ≡ net_change old new → SameBag (changed old change) new
net_bag old new change e a = ap (λ c. count_of a (changed old c)) e ∙ ap (count_of a) (net_effect old new) ∙ count-in_row_order a new

-- the events of rows stand in order, so that sorting them leaves them as they are
events_sorted : (cdc : Cdc) (xs : List Expectation) (rows : List Row) → feed_stop cdc xs rows [] ≡ None → sorted_by event_order (events cdc xs rows) ≡ events cdc xs rows
events_sorted cdc xs rows runs =
    let once : List Event = fresh [] (given cdc xs rows) in
    let free : IsClashFree once = same_free (given cdc xs rows) once (λ e. sym (fresh_same [] (given cdc xs rows) e)) (given_free cdc xs rows runs) in
    one_event_order (sorted_by event_order once) once (sorting_keeps_events once) (same_free once (sorted_by event_order once) (λ e. sym (sorting_keeps_events once e)) free)
    (λ e. omega (arith, sorting_keeps_times once e, fresh_once [] (given cdc xs rows) e)) (fresh_once [] (given cdc xs rows))

pub kept_sorts : (cdc : Cdc) (xs : List Expectation) (rows : List Row) (kept : List Event) → feed_stop cdc xs rows [] ≡ None → kept ≡ events cdc xs rows → sorted_by event_order kept ≡ events cdc xs rows
kept_sorts cdc xs rows kept runs e = ap (sorted_by event_order) e ∙ events_sorted cdc xs rows runs

module _ (ever : List LandingFile) (state : State) (xs : List Expectation) (cdc : Cdc) (dataset : Dataset) (batch : Take) (flows_are : dataset.definition.flows ≡ record { name = cdc.name; origin = stored_origin cdc.origin } ∷ [])
    (stood : FeedStands ever state xs cdc dataset) (takes : FeedTakes ever state xs cdc dataset batch) where
  old_is : stood.cursor ≡ takes.old
  old_is = one_cursor (same_name cdc.name batch.flow) stood.cursor takes.old None takes.is_flow (sym (λ i. cursor_in (flows_are i) (stood.one_flow i) batch.flow) ∙ takes.from)

  now_cursors : moved dataset.definition.flows dataset.cursors batch.flow batch.cursor ≡ batch.cursor ∷ []
  now_cursors = (λ i. moved (flows_are i) (stood.one_flow i) batch.flow batch.cursor) ∙ one_moved (same_name cdc.name batch.flow) stood.cursor batch.cursor [] takes.is_flow

  abbrev was_rows : List Row
  was_rows = consumed ever state cdc.origin stood.cursor

  abbrev now_rows : List Row
  now_rows = consumed ever state cdc.origin batch.cursor

  adds : SameBag (was_rows ++ takes.rows) now_rows
  adds =
      subst (λ c. SameBag (consumed ever state cdc.origin c ++ takes.rows) now_rows) (sym old_is)
      (between_adds ever state cdc.origin takes.old batch.cursor takes.rows (subst (StreamStands ever state cdc.origin) old_is stood.reads) takes.goes_on.between)

  kept_sorted : sorted_by event_order dataset.events ≡ events cdc xs was_rows
  kept_sorted = kept_sorts cdc xs was_rows dataset.events stood.runs stood.kept

  runs_all : feed_stop cdc xs (was_rows ++ takes.rows) [] ≡ None
  runs_all = feed_stop_adds cdc xs was_rows takes.rows dataset.events kept_sorted stood.runs takes.runs

  kept_now : events_with dataset.events batch.events ≡ events cdc xs now_rows
  kept_now =
      ap (events_with dataset.events) takes.events_are ∙ kept_add cdc xs was_rows takes.rows dataset.events kept_sorted stood.runs takes.runs
      ∙ events_move cdc xs (was_rows ++ takes.rows) now_rows adds runs_all

  target_now : SameBag (content (taken batch dataset)) (target_rows cdc (events cdc xs now_rows))
  target_now a =
      ap (count_of a) (content_taken batch dataset) ∙ net_bag (content dataset) (target_rows cdc (events_with dataset.events batch.events)) batch.change takes.change a
      ∙ ap (λ es. count_of a (target_rows cdc es)) kept_now

  counts_now : added dataset.counts batch.counts ≡ counts xs (feed_seen cdc xs now_rows)
  counts_now =
      (λ i. added (stood.counts_are i) (takes.counts_are i))
      ∙ counts_go_on xs (feed_seen cdc xs was_rows) (feed_seen cdc xs takes.rows) (feed_seen cdc xs now_rows) (picked_adds (λ row. upsert_in (reading cdc xs row)) was_rows takes.rows now_rows adds)

  pub feed_takes : FeedStands ever state xs cdc (taken batch dataset)
  feed_takes = record {
    cursor = batch.cursor;
    one_flow = now_cursors;
    reads = ends_stream ever state cdc.origin batch.cursor takes.goes_on.ends;
    runs = feed_stop_moves cdc xs (was_rows ++ takes.rows) now_rows adds runs_all;
    kept = kept_now;
    content_is = target_now;
    counts_are = counts_now;
  }

-- ---- a view

kept_now_by : (o : Option Dataset) (source : Dataset) → o ≡ Some source → IsSomeAnd o (IsKept (version_of source))
kept_now_by o source e = subst (λ p. IsSomeAnd p (IsKept (version_of source))) (sym e) (omega arith, omega arith)

rows_now_by : (o : Option Dataset) (source : Dataset) → o ≡ Some source → option_map_or (λ d. content_at d (version_of source)) o [] ≡ content source
rows_now_by o source e = ap (λ p. option_map_or (λ d. content_at d (version_of source)) p []) e ∙ at_now source (version_of source) refl

pub content_refreshed : (refresh : Refresh) (dataset : Dataset) → content (refreshed refresh dataset) ≡ changed (content dataset) refresh.change
content_refreshed refresh dataset = content_after-append dataset.table.rows dataset.table.changes (refresh.change ∷ [])

module _ (ever : List LandingFile) (state : State) (xs : List Expectation) (query : Query) (dataset : Dataset) (refresh : Refresh) (refreshes : ViewRefreshes state xs query dataset refresh) where
  abbrev source : Dataset
  source = refreshes.source

  shows_now : Shows query xs (rows_of_table state query.origin (version_of source)) (refreshed refresh dataset)
  shows_now = record {
    result = refreshes.result;
    gives = ap (viewed query xs) (rows_now_by (dataset_of state query.origin) source refreshes.source_is) ∙ refreshes.gives;
    content_is = λ a. ap (count_of a) (content_refreshed refresh dataset) ∙ net_bag (content dataset) refreshes.result.rows refresh.change refreshes.change a;
    counts_are = refreshes.counts_are;
  }

  pub view_refreshes : ViewStands ever state xs query (refreshed refresh dataset)
  view_refreshes = record {
    cursor = At (version_of source);
    one_flow = ap (λ (c : Cursor). c ∷ []) refreshes.cursor_is;
    reads = kept_now_by (dataset_of state query.origin) source refreshes.source_is;
    shows = shows_now;
  }
