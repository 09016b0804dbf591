-- A store that stands and has its shape is what a store may be.
use Rattle.std.proofs.Common.{◌≡◌, ℕ, ◌≤◌, ◌^◌, List, [], ◌∷◌, map, true, false, Option, Some, None, refl, sym, ap, ◌∙◌, subst, All}
use Rattle.std.specs.Prelude.{IsSomeAnd}
use Rattle.std.specs.List.{AllByRecursion, list_all}
use Rattle.std.proofs.lemmas.Bool.{and_parts}
use Rattle.std.proofs.lemmas.List.{length-map}
use Rattle.std.proofs.lemmas.List.Elements.{All-head, All-tail}
use Rattle.value_core.specs.declared.cursor.Cursor.{Cursor}
use Rattle.value_core.specs.declared.cursor.Cursor.TheVariants.{Files, At, Never}
use Rattle.value_core.specs.declared.event.Event.{Event}
use Rattle.landing_core.specs.declared.landing.LandingFile.{LandingFile}
use Rattle.plan_core.specs.declared.flow.AppendFlow.{AppendFlow}
use Rattle.plan_core.specs.declared.flow.Origin.{Origin}
use Rattle.plan_core.specs.declared.flow.Origin.TheVariants as origin
use Rattle.plan_core.specs.declared.plan.Body.{Body}
use Rattle.plan_core.specs.declared.plan.Body.TheVariants as body
use Rattle.plan_core.specs.declared.plan.Dataset.{Dataset as Part}
use Rattle.plan_core.specs.Sound.{IsSoundBody}
use Rattle.flow_kinds.proofs.FitTools.{head_of, tail_of}
use Rattle.commit_payloads.specs.declared.definition.StoredOrigin.TheVariants.{Table}
use Rattle.state_model.specs.After.{begun_cursor, no_tally}
use Rattle.state_model.specs.Dataset.{Dataset, State, dataset_of, definitions_of, version_of}
use Rattle.state_model.specs.Follows.{AllFitStored, CursorsFit, FitsStored, IsStore, MovesOn, all_fit, event_fits, keeps_events}
use Rattle.state_steps.specs.Consumed.{CursorStands, IsKept, IsStreamed, StreamStands, StreamsStand}
use Rattle.state_steps.specs.Parts.{AllKeepText, AreTyped, IsTyped, sequence_kinds, stored_body, stored_flow, stored_flows, stored_keys, stored_origin, streams_of}
use Rattle.state_steps.specs.Shapes.{AllHaveShape, AllWithin, IsKeptWell, is_shaped}
use Rattle.state_steps.specs.Stands.{AllStand, BodyStands, DatasetStands, Stands, origins_of}
use Rattle.state_steps.proofs.CommitShapes.{kept_events}
use Rattle.state_steps.proofs.FitsLemmas.{counted, distinct_list, stored_are}

module _ (parts : List Part) (ever : List LandingFile) (state : State) (stands : Stands parts ever state) (shape : AllHaveShape parts state) where
  -- ---- cursors

  streamed_reached : (v : ℕ) (o : Option Dataset) → IsSomeAnd o (IsStreamed v) → IsSomeAnd o (λ d. v ≤ version_of d)
  streamed_reached v None h = h
  streamed_reached v (Some d) h = h.0.1

  kept_reached : (v : ℕ) (o : Option Dataset) → IsSomeAnd o (IsKept v) → IsSomeAnd o (λ d. v ≤ version_of d)
  kept_reached v None h = h
  kept_reached v (Some d) h = h.1

  cursor_fits : (from : Origin) (cursor : Cursor) → StreamStands ever state from cursor → MovesOn state (stored_origin from) (begun_cursor (stored_origin from)) cursor
  cursor_fits (origin.Files dir lines) (Files places) stand = refl
  cursor_fits (origin.Files dir lines) (At v) stand = absurd stand
  cursor_fits (origin.Files dir lines) Never stand = absurd stand
  cursor_fits (origin.Table name) (Files places) stand = absurd stand
  cursor_fits (origin.Table name) Never stand = tt
  cursor_fits (origin.Table name) (At v) stand = streamed_reached v (dataset_of state name) stand

  view_cursor : (name : List ℕ) (cursor : Cursor) → CursorStands ever state (origin.Table name) cursor → MovesOn state (Table name) Never cursor
  view_cursor name (Files places) stand = absurd stand
  view_cursor name Never stand = tt
  view_cursor name (At v) stand = kept_reached v (dataset_of state name) stand

  all_cursors : (flows : List AppendFlow) (cursors : List Cursor) → StreamsStand ever state (origins_of flows) cursors → CursorsFit state (map stored_flow flows) cursors
  all_cursors [] [] stand = tt
  all_cursors [] (cursor ∷ cursors) stand = absurd stand
  all_cursors (flow ∷ flows) [] stand = absurd stand
  all_cursors (flow ∷ flows) (cursor ∷ cursors) stand = (cursor_fits flow.origin cursor stand.0, all_cursors flows cursors stand.1)

  body_cursors : (part : Part) (b : Body) (d : Dataset) → BodyStands ever state part.expectations b d → CursorsFit state (stored_flows part b) d.cursors
  body_cursors part (body.Append flows) d stood = all_cursors flows d.cursors stood.reads
  body_cursors part (body.Cdc cdc) d stood = subst (CursorsFit state (stored_flows part (body.Cdc cdc))) (sym stood.one_flow) (cursor_fits cdc.origin stood.cursor stood.reads, tt)
  body_cursors part (body.View query) d stood = subst (CursorsFit state (stored_flows part (body.View query))) (sym stood.one_flow) (view_cursor query.origin stood.cursor stood.reads, tt)

  -- ---- events

  no_feed : (d : Dataset) → IsKeptWell d → keeps_events d.definition.body ≡ false → list_all (event_fits d.definition) d.events ≡ true
  no_feed d well none = subst (λ (es : List Event). list_all (event_fits d.definition) es ≡ true) (sym (well.no_events none)) refl

  body_events : (part : Part) (b : Body) (d : Dataset) → DatasetStands ever state part d → IsSoundBody parts part b → d.definition.sequence ≡ sequence_kinds parts part b → AllKeepText (streams_of b) → d.definition.body ≡ stored_body b
      → d.definition.keys ≡ stored_keys b → BodyStands ever state part.expectations b d → IsKeptWell d → list_all (event_fits d.definition) d.events ≡ true
  body_events part (body.Append flows) d stands_so sound typed texts body_is keys_are stood well = no_feed d well (ap keeps_events body_is)
  body_events part (body.Cdc cdc) d stands_so sound typed texts body_is keys_are stood well = kept_events parts ever state stands shape part d stands_so.is_of cdc sound typed texts body_is keys_are stood
  body_events part (body.View query) d stands_so sound typed texts body_is keys_are stood well = no_feed d well (ap keeps_events body_is)

  -- ---- datasets

  stored_fits : (part : Part) (d : Dataset) → DatasetStands ever state part d → IsTyped parts part d.definition → IsSoundBody parts part part.body → is_shaped d ≡ true → IsKeptWell d → version_of d ≤ 2 ^ 62 → FitsStored state d
  stored_fits part d stood typed sound shaped well limit =
      let rows = and_parts (all_fit d.definition.columns d.table.rows) (list_all (λ change. all_fit d.definition.columns change.added) d.table.changes) shaped in
      record {
        follow = well.follow;
        limit = limit;
        rows_fit = rows.0;
        changes_fit = rows.1;
        cursors = subst (λ flows. CursorsFit state flows d.cursors) (sym stood.is_of.flows) (body_cursors part part.body d stood.fills);
        one_each = counted (map no_tally d.definition.expectations) d.counts well.within ∙ length-map d.definition.expectations no_tally;
        within = well.within;
        no_events = well.no_events;
        events_fit = body_events part part.body d stood sound typed.sequence typed.texts stood.is_of.body stood.is_of.keys stood.fills well;
      }

  all_stored : (ps : List Part) (ds : State) → AllStand ever state ps ds → AreTyped parts ps (definitions_of ds) → All (λ p. IsSoundBody parts p p.body) ps → list_all is_shaped ds ≡ true → AllByRecursion IsKeptWell ds → AllWithin ds
      → AllFitStored state ds
  all_stored [] [] all typed sound shaped well limits = tt
  all_stored [] (d ∷ ds) all typed sound shaped well limits = absurd all
  all_stored (p ∷ ps) [] all typed sound shaped well limits = absurd all
  all_stored (p ∷ ps) (d ∷ ds) all typed sound shaped well limits = (
    stored_fits p d all.0 typed.0 (All-head (λ q. IsSoundBody parts q q.body) p ps sound) (head_of is_shaped d ds shaped) well.0 limits.0,
    all_stored ps ds all.1 typed.1 (All-tail (λ q. IsSoundBody parts q q.body) p ps sound) (tail_of is_shaped d ds shaped) well.1 limits.1,
  )

  pub is_store : AllWithin state → IsStore state
  is_store limits = record {
    distinct = distinct_list parts (definitions_of state) stands.sound.names_differ (stored_are ever state parts state stands.each);
    each = all_stored parts state stands.each shape.typed stands.sound.each_dataset shape.rows shape.kept limits;
  }
