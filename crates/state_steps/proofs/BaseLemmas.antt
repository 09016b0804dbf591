-- A store that stands has the form in which a base is written.
use Rattle.std.proofs.Common.{◌≡◌, ℕ, List, [], ◌∷◌, map, true, false, None, refl, sym, ap, ◌∙◌, subst}
use Rattle.std.specs.List.{AllByRecursion}
use Rattle.std.proofs.lemmas.List.{length-map}
use Rattle.value_core.specs.declared.change.Change.{Change}
use Rattle.value_core.specs.declared.cursor.Cursor.{Cursor}
use Rattle.value_core.specs.declared.cursor.Cursor.TheVariants.{Files, At, Never}
use Rattle.value_core.specs.declared.event.Event.{Event}
use Rattle.value_core.specs.Changes.{IsChange}
use Rattle.value_core.specs.EventOrder.{event_order}
use Rattle.value_core.specs.Order.{Row}
use Rattle.segment_rows.specs.EventParts.{has_its_parts}
use Rattle.net_changes.specs.Chains.{Follow}
use Rattle.value_core.specs.Bags.{changed}
use Rattle.landing_core.specs.declared.landing.LandingFile.{LandingFile}
use Rattle.plan_core.specs.declared.expectation.Expectation.{Expectation}
use Rattle.plan_core.specs.declared.flow.AppendFlow.{AppendFlow}
use Rattle.plan_core.specs.declared.flow.Cdc.{Cdc}
use Rattle.plan_core.specs.declared.flow.Origin.{Origin}
use Rattle.plan_core.specs.declared.flow.Origin.TheVariants as origin
use Rattle.plan_core.specs.declared.plan.Body.{Body}
use Rattle.plan_core.specs.declared.plan.Body.TheVariants as body
use Rattle.plan_core.specs.declared.plan.Dataset.{Dataset as Part}
use Rattle.flow_model.specs.Events.{fresh}
use Rattle.flow_model.specs.Feed.{events, feed_stop, given}
use Rattle.flow_model.proofs.FeedLemmas.{given_free}
use Rattle.flow_kinds.proofs.EventFits.{fresh_fit}
use Rattle.flow_kinds.proofs.FitTools.{all_sorted}
use Rattle.commit_payloads.specs.Forms.{IsBase, IsKept, IsProgress, all_have_their_parts, are_ascending}
use Rattle.state_model.specs.Dataset.{Dataset, State, definition_of, definitions_of}
use Rattle.state_model.specs.Follows.{keeps_events}
use Rattle.state_model.specs.Saved.{kept_of, saved}
use Rattle.state_steps.specs.Consumed.{CursorStands, StreamStands, StreamsStand, consumed}
use Rattle.state_steps.specs.Parts.{stored_body}
use Rattle.state_steps.specs.Shapes.{AllHaveShape, IsKeptWell}
use Rattle.state_steps.specs.Stands.{AllStand, BodyStands, DatasetStands, Stands, origins_of}
use Rattle.state_steps.proofs.FitsLemmas.{fresh_new, stored_are}
use Rattle.state_keeps.proofs.OrderLemmas.{sorted_ascends}
use Rattle.state_steps.proofs.WritableLemmas.{all_forms, events_have, given_have}

-- ---- the events of a change feed

module _ (cdc : Cdc) (xs : List Expectation) (rows : List Row) where
  events_parts : all_have_their_parts (events cdc xs rows) ≡ true
  events_parts =
      events_have (events cdc xs rows) (all_sorted has_its_parts event_order (fresh [] (given cdc xs rows)) (fresh_fit has_its_parts [] (given cdc xs rows) (given_have cdc xs rows)))

  events_ascend : feed_stop cdc xs rows [] ≡ None → are_ascending (events cdc xs rows) ≡ true
  events_ascend runs = sorted_ascends [] (fresh [] (given cdc xs rows)) (fresh_new [] (given cdc xs rows) (given_free cdc xs rows runs))

-- ---- changes and cursors

changes_of : (rows : List Row) (changes : List Change) → Follow rows changes → AllByRecursion IsChange changes
changes_of rows [] follow = tt
changes_of rows (change ∷ changes) follow = (follow.0, changes_of (changed rows change) changes follow.2)

module _ (ever : List LandingFile) (state : State) where
  stream_progress : (from : Origin) (cursor : Cursor) → StreamStands ever state from cursor → IsProgress cursor
  stream_progress (origin.Files dir lines) (Files places) stand = stand.0
  stream_progress (origin.Files dir lines) (At v) stand = tt
  stream_progress (origin.Files dir lines) Never stand = tt
  stream_progress (origin.Table name) (Files places) stand = absurd stand
  stream_progress (origin.Table name) (At v) stand = tt
  stream_progress (origin.Table name) Never stand = tt

  view_progress : (name : List ℕ) (cursor : Cursor) → CursorStands ever state (origin.Table name) cursor → IsProgress cursor
  view_progress name (Files places) stand = absurd stand
  view_progress name (At v) stand = tt
  view_progress name Never stand = tt

  all_progress : (flows : List AppendFlow) (cursors : List Cursor) → StreamsStand ever state (origins_of flows) cursors → AllByRecursion IsProgress cursors
  all_progress [] [] stand = tt
  all_progress [] (cursor ∷ cursors) stand = absurd stand
  all_progress (flow ∷ flows) [] stand = absurd stand
  all_progress (flow ∷ flows) (cursor ∷ cursors) stand = (stream_progress flow.origin cursor stand.0, all_progress flows cursors stand.1)

  body_progress : (xs : List Expectation) (b : Body) (d : Dataset) → BodyStands ever state xs b d → AllByRecursion IsProgress d.cursors
  body_progress xs (body.Append flows) d stood = all_progress flows d.cursors stood.reads
  body_progress xs (body.Cdc cdc) d stood = subst (AllByRecursion IsProgress) (sym stood.one_flow) (stream_progress cdc.origin stood.cursor stood.reads, tt)
  body_progress xs (body.View query) d stood = subst (AllByRecursion IsProgress) (sym stood.one_flow) (view_progress query.origin stood.cursor stood.reads, tt)

  -- ---- events

  -- an event has the parts of its kind, and the events ascend
  abbrev HasForm : List Event → Type 0
  HasForm kept = (all_have_their_parts kept ≡ true) × (are_ascending kept ≡ true)

  no_feed : (d : Dataset) → IsKeptWell d → keeps_events d.definition.body ≡ false → HasForm d.events
  no_feed d well none = subst HasForm (sym (well.no_events none)) (refl, refl)

  body_events : (xs : List Expectation) (b : Body) (d : Dataset) → d.definition.body ≡ stored_body b → IsKeptWell d → BodyStands ever state xs b d → HasForm d.events
  body_events xs (body.Append flows) d body_is well stood = no_feed d well (ap keeps_events body_is)
  body_events xs (body.Cdc cdc) d body_is well stood =
      let was : List Row = consumed ever state cdc.origin stood.cursor in
      subst HasForm (sym stood.kept) (events_parts cdc xs was, events_ascend cdc xs was stood.runs)
  body_events xs (body.View query) d body_is well stood = no_feed d well (ap keeps_events body_is)

  -- ---- datasets

  one_kept : (part : Part) (d : Dataset) → DatasetStands ever state part d → IsKeptWell d → IsKept (kept_of d)
  one_kept part d stood well =
      let form = body_events part.expectations part.body d stood.is_of.body well stood.fills in
      record { rows = well.order; changes = changes_of d.table.rows d.table.changes well.follow; cursors = body_progress part.expectations part.body d stood.fills; events = form.0; order = form.1 }

  all_kept : (parts : List Part) (ds : State) → AllStand ever state parts ds → AllByRecursion IsKeptWell ds → AllByRecursion IsKept (map kept_of ds)
  all_kept [] [] all well = tt
  all_kept [] (d ∷ ds) all well = absurd all
  all_kept (p ∷ ps) [] all well = absurd all
  all_kept (p ∷ ps) (d ∷ ds) all well = (one_kept p d all.0 well.0, all_kept ps ds all.1 well.1)

pub is_base : (parts : List Part) (ever : List LandingFile) (state : State) → Stands parts ever state → AllHaveShape parts state → IsBase (saved state)
is_base parts ever state stands shape = record {
  definitions = all_forms parts parts (definitions_of state) (stored_are ever state parts state stands.each) shape.typed;
  one_each = length-map state kept_of ∙ sym (length-map state definition_of);
  kept = all_kept ever state parts state stands.each shape.kept;
}
