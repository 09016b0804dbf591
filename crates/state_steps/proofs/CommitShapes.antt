-- An allowed commit has rows and events of the shape of its dataset, and the store keeps its shape.
use Rattle.std.proofs.Common.{◌≡◌, ℕ, ◌+◌, ◌-◌, ◌*◌, List, [], ◌∷◌, ◌++◌, map, length, take, drop, Bool, true, false, if◌then◌else◌, Option, Some, refl, sym, ap, ◌∙◌, subst, arith, append_assoc, length-append}
use Rattle.std.specs.Prelude.{IsTrue, option_and_then, slice_get, unwrap_or}
use Rattle.std.specs.List.{AllByRecursion, list_all}
use Rattle.std.proofs.lemmas.List.{length-map, take_at}
use Rattle.value_core.specs.declared.change.Change.{Change}
use Rattle.value_core.specs.declared.event.Event.{Event}
use Rattle.value_core.specs.declared.event.EventKind.{EventKind}
use Rattle.value_core.specs.declared.event.EventKind.TheVariants.{Upsert, Delete, Truncate}
use Rattle.value_core.specs.declared.schema.Column.{Column}
use Rattle.value_core.specs.declared.value.Kind.{Kind}
use Rattle.value_core.specs.Bags.{in_row_order, surplus}
use Rattle.value_core.specs.EventOrder.{event_order}
use Rattle.value_core.specs.Fits.{row_fits}
use Rattle.value_core.specs.Order.{Row}
use Rattle.landing_core.specs.declared.landing.LandingFile.{LandingFile}
use Rattle.plan_core.specs.declared.flow.AppendFlow.{AppendFlow}
use Rattle.plan_core.specs.declared.flow.Cdc.{Cdc}
use Rattle.plan_core.specs.declared.plan.Body.{Body}
use Rattle.plan_core.specs.declared.plan.Body.TheVariants as body
use Rattle.plan_core.specs.declared.plan.Dataset.{Dataset as Part}
use Rattle.plan_core.specs.declared.query.Query.{Query}
use Rattle.plan_core.specs.Sound.{IsSoundBody, IsSoundTable, IsSoundTarget, IsSoundView, kinds_at, kinds_of, target_kinds}
use Rattle.flow_model.specs.Append.{append_out}
use Rattle.flow_model.specs.Events.{fresh}
use Rattle.flow_model.specs.Feed.{given}
use Rattle.flow_model.specs.Target.{target_rows}
use Rattle.flow_kinds.specs.EventKinds as kinds
use Rattle.flow_kinds.specs.EventKinds.{all_events_of, is_event_of}
use Rattle.flow_kinds.proofs.AppendFits.{append_fits}
use Rattle.flow_kinds.proofs.EventFits.{fresh_fit, given_fit}
use Rattle.flow_kinds.proofs.FitTools.{all_append, all_in_order, all_sorted, both_of, head_of, tail_of, there_length}
use Rattle.flow_kinds.proofs.TargetFits.{target_fits}
use Rattle.flow_kinds.proofs.ViewFits.{view_fits}
use Rattle.commit_payloads.specs.declared.definition.Definition.{Definition}
use Rattle.commit_payloads.specs.declared.definition.StoredBody.TheVariants.{Scd1, Scd2}
use Rattle.commit_payloads.specs.declared.payload.Payload.{Payload}
use Rattle.commit_payloads.specs.declared.payload.Payload.TheVariants as payload
use Rattle.commit_payloads.specs.declared.take.Refresh.{Refresh}
use Rattle.commit_payloads.specs.declared.take.Take.{Take}
use Rattle.state_model.specs.After.{after_payload, events_with, refreshed, taken}
use Rattle.state_model.specs.Dataset.{Dataset, State, content, dataset_of, definitions_of}
use Rattle.state_model.specs.Follows.{all_fit, event_fits, event_kinds, key_kinds, kind_of, parts_fit}
use Rattle.state_model.specs.Saved.{compacted, folded_for, read_back}
use Rattle.state_model.proofs.StateLemmas.{definitions-defined, definitions-reset, definitions-updated, saved-read_back}
use Rattle.state_steps.specs.Consumed.{consumed}
use Rattle.state_steps.specs.Parts.{AllKeepText, AreTyped, IsOf, IsTyped, sequence_kinds, stored_body, stored_keys, streams_of}
use Rattle.state_steps.specs.Shapes.{AllHaveShape, IsKeptWell, is_shaped}
use Rattle.state_steps.specs.Stands.{BodyStands, FeedStands, Stands}
use Rattle.state_steps.specs.Steps.{AppendTakes, BodyRefreshes, BodyTakes, Commits, FeedTakes, Refreshes, Takes, ViewRefreshes}
use Rattle.state_steps.proofs.FitsLemmas.{found_stands}
use Rattle.state_steps.proofs.UniqueLemmas.{found_sound}
use Rattle.state_steps.proofs.FlowShapes.{between_fit, consumed_fit, found_flow, found_typed, now_fits, query_source}
use Rattle.state_steps.proofs.RowShapes.{all_surplus, compacted_shaped, defined_shaped, found_shaped, fresh_shaped, grown_shaped, reset_shaped, updated_shaped}

-- rows and events of a batch are of the shape of its dataset
abbrev pub BatchFits : Dataset → Take → Type 0
BatchFits d batch = (all_fit d.definition.columns batch.change.added ≡ true) × (list_all (event_fits d.definition) batch.events ≡ true)

-- ---- events of a definition

same_parts : (definition : Definition) (e : Event) (k : EventKind) → kinds.parts_fit (key_kinds definition) (event_kinds definition definition.body) e k ≡ parts_fit definition e k
same_parts definition e Upsert = refl
same_parts definition e Delete = refl
same_parts definition e Truncate = refl

one_of : (definition : Definition) (e : Event) → is_event_of definition.sequence (key_kinds definition) (event_kinds definition definition.body) e ≡ true → event_fits definition e ≡ true
one_of definition e h = let same = same_parts definition e e.kind in rw (sym same) h

all_of : (definition : Definition) (events : List Event) → all_events_of definition.sequence (key_kinds definition) (event_kinds definition definition.body) events ≡ true → list_all (event_fits definition) events ≡ true
all_of definition [] h = refl
all_of definition (e ∷ events) h =
    let test : Event → Bool = is_event_of definition.sequence (key_kinds definition) (event_kinds definition definition.body) in
    both_of (event_fits definition) e events (one_of definition e (head_of test e events h)) (all_of definition events (tail_of test e events h))

-- the columns of the events of a change feed are those of the table, without where each row starts and ends
module _ (definition : Definition) (columns sequences : List Kind) (sequence_is : definition.sequence ≡ sequences) where
  less_ends : (n m l : ℕ) → l ≡ n + m + m → l - 2 * m ≡ n
  less_ends n m l e = omega (arith, e)

  columns_by : (b : Bool) → definition.body ≡ (if b then Scd2 else Scd1) → target_kinds b sequences columns ≡ map kind_of definition.columns → event_kinds definition (if b then Scd2 else Scd1) ≡ columns
  columns_by true body_is e =
      let long : length (columns ++ sequences ++ sequences) ≡ length columns + length sequences + length sequences =
      length-append (columns ++ sequences) sequences ∙ ap (λ (n : ℕ). n + length sequences) (length-append columns sequences) in
      let count : length definition.columns ≡ length columns + length sequences + length sequences = sym (length-map definition.columns kind_of) ∙ ap (length {A = Kind}) (sym e) ∙ long in
      let places : length definition.columns - 2 * length definition.sequence ≡ length columns =
      ap (λ (s : List Kind). length definition.columns - 2 * length s) sequence_is ∙ less_ends (length columns) (length sequences) (length definition.columns) count in
      (λ i. take (places i) (sym e i)) ∙ ap (take (length columns)) (append_assoc columns sequences sequences) ∙ take_at columns (sequences ++ sequences) (length columns) refl
  columns_by false body_is e = sym e

-- ---- a batch

module _ (parts : List Part) (ever : List LandingFile) (state : State) (stands : Stands parts ever state) (shape : AllHaveShape parts state) (part : Part) (d : Dataset) (is_of : IsOf part d.definition) where
  in_columns : (rows : List Row) → kinds.all_fit (kinds_of part.columns) rows ≡ true → all_fit d.definition.columns rows ≡ true
  in_columns rows h = subst (λ (cs : List Column). all_fit cs rows ≡ true) (sym is_of.columns) h

  append_shape : (flows : List AppendFlow) (batch : Take) → IsSoundTable parts part flows → AllKeepText (map (λ f. f.origin) flows) → AppendTakes ever state part.expectations flows d batch → BatchFits d batch
  append_shape flows batch sound texts takes =
      let flow = found_flow parts part batch.flow flows takes.flow sound.each_flow texts takes.is_flow in
      let rows = between_fit parts ever state stands shape part.level takes.flow.origin takes.old batch.cursor takes.rows flow.0.source flow.0.reads flow.1 takes.goes_on.between in
      let out = append_fits (kinds_of flow.0.source) (kinds_of part.columns) takes.flow part.expectations takes.rows flow.0.gives rows in
      let added = in_columns (in_row_order (append_out takes.flow part.expectations takes.rows)) (all_in_order (row_fits (kinds_of part.columns)) (append_out takes.flow part.expectations takes.rows) out) in
      (subst (λ (c : Change). all_fit d.definition.columns c.added ≡ true) (sym takes.change) added, subst (λ (es : List Event). list_all (event_fits d.definition) es ≡ true) (sym takes.no_events) refl)

  module _ (cdc : Cdc) (sound : IsSoundTarget parts part cdc) (typed : d.definition.sequence ≡ sequence_kinds parts part (body.Cdc cdc)) (texts : AllKeepText (cdc.origin ∷ []))
      (body_is : d.definition.body ≡ (if cdc.scd2 then Scd2 else Scd1)) (keys_are : d.definition.keys ≡ cdc.keys) (stood : FeedStands ever state part.expectations cdc d) where
    abbrev keys : List Kind
    keys = kinds.key_kinds sound.columns cdc.keys

    sequence_is : d.definition.sequence ≡ sound.sequences
    sequence_is =
        typed ∙ ap (λ (o : Option (List Column)). unwrap_or (option_and_then (λ columns. kinds_at (kinds_of columns) cdc.sequence) o) []) sound.reads ∙ ap (λ (o : Option (List Kind)). unwrap_or o []) sound.feed.sequence

    columns_are : event_kinds d.definition d.definition.body ≡ sound.columns
    columns_are =
        ap (event_kinds d.definition) body_is
        ∙ columns_by d.definition sound.columns sound.sequences sequence_is cdc.scd2 body_is (sound.gives ∙ ap (λ (cs : List Column). map kind_of cs) (sym is_of.columns))

    keys_is : key_kinds d.definition ≡ keys
    keys_is = λ i. kinds.key_kinds (columns_are i) (keys_are i)

    stored : (events : List Event) → all_events_of sound.sequences keys sound.columns events ≡ true → list_all (event_fits d.definition) events ≡ true
    stored events h =
        all_of d.definition events
        (subst (λ (s : List Kind). all_events_of s (key_kinds d.definition) (event_kinds d.definition d.definition.body) events ≡ true) (sym sequence_is)
        (subst (λ (ks : List Kind). all_events_of sound.sequences ks (event_kinds d.definition d.definition.body) events ≡ true) (sym keys_is)
        (subst (λ (cs : List Kind). all_events_of sound.sequences keys cs events ≡ true) (sym columns_are) h)))

    abbrev was : List Row
    was = consumed ever state cdc.origin stood.cursor

    old_events : all_events_of sound.sequences keys sound.columns d.events ≡ true
    old_events =
        subst (λ (es : List Event). all_events_of sound.sequences keys sound.columns es ≡ true) (sym stood.kept)
        (all_sorted (is_event_of sound.sequences keys sound.columns) event_order (fresh [] (given cdc part.expectations was))
        (fresh_fit (is_event_of sound.sequences keys sound.columns) [] (given cdc part.expectations was)
        (given_fit (kinds_of sound.source) sound.sequences sound.columns cdc part.expectations was sound.feed (consumed_fit parts ever state stands shape part.level cdc.origin stood.cursor sound.source sound.reads texts.0))))

    pub kept_events : list_all (event_fits d.definition) d.events ≡ true
    kept_events = stored d.events old_events

    one_sequence : IsTrue cdc.scd2 → length sound.sequences ≡ 1
    one_sequence is =
        there_length (map (λ at. slice_get (kinds_of sound.source) at) cdc.sequence) sound.sequences sound.feed.sequence ∙ length-map cdc.sequence (λ at. slice_get (kinds_of sound.source) at) ∙ sound.feed.one_sequence is

    module _ (batch : Take) (takes : FeedTakes ever state part.expectations cdc d batch) where
      new_events : all_events_of sound.sequences keys sound.columns batch.events ≡ true
      new_events =
          subst (λ (es : List Event). all_events_of sound.sequences keys sound.columns es ≡ true) (sym takes.events_are)
          (fresh_fit (is_event_of sound.sequences keys sound.columns) d.events (given cdc part.expectations takes.rows)
          (given_fit (kinds_of sound.source) sound.sequences sound.columns cdc part.expectations takes.rows sound.feed
          (between_fit parts ever state stands shape part.level cdc.origin takes.old batch.cursor takes.rows sound.source sound.reads texts.0 takes.goes_on.between)))

      all_events : all_events_of sound.sequences keys sound.columns (events_with d.events batch.events) ≡ true
      all_events = all_sorted (is_event_of sound.sequences keys sound.columns) event_order (d.events ++ batch.events) (all_append (is_event_of sound.sequences keys sound.columns) d.events batch.events old_events new_events)

      rows_fit : kinds.all_fit (kinds_of part.columns) (target_rows cdc (events_with d.events batch.events)) ≡ true
      rows_fit =
          subst (λ (ks : List Kind). kinds.all_fit ks (target_rows cdc (events_with d.events batch.events)) ≡ true) sound.gives
          (target_fits sound.sequences keys sound.columns cdc (events_with d.events batch.events) one_sequence all_events)

      pub feed_shape : BatchFits d batch
      feed_shape =
          let now : List Row = target_rows cdc (events_with d.events batch.events) in
          let added = in_columns (in_row_order (surplus now (content d)))
          (all_in_order (row_fits (kinds_of part.columns)) (surplus now (content d)) (all_surplus (row_fits (kinds_of part.columns)) now (content d) rows_fit)) in
          (subst (λ (c : Change). all_fit d.definition.columns c.added ≡ true) (sym takes.change) added, stored batch.events new_events)

  body_shape : (b : Body) (batch : Take) → IsSoundBody parts part b → d.definition.sequence ≡ sequence_kinds parts part b → AllKeepText (streams_of b) → d.definition.body ≡ stored_body b → (keys_are : d.definition.keys ≡ stored_keys b)
      → BodyStands ever state part.expectations b d → BodyTakes ever state part.expectations b d batch → BatchFits d batch
  body_shape (body.Append flows) batch sound typed texts body_is keys_are stood takes = append_shape flows batch sound texts takes
  body_shape (body.Cdc cdc) batch sound typed texts body_is keys_are stood takes = feed_shape cdc sound typed texts body_is keys_are stood batch takes
  body_shape (body.View query) batch sound typed texts body_is keys_are stood takes = absurd takes

  -- ---- a refresh

  view_shape : (query : Query) (refresh : Refresh) → IsSoundView parts part query → ViewRefreshes state part.expectations query d refresh → all_fit d.definition.columns refresh.change.added ≡ true
  view_shape query refresh sound r =
      let rows = now_fits parts ever state stands shape query.origin sound.source (query_source parts part.level query.origin sound.source sound.reads) r.source r.source_is in
      let result = view_fits (kinds_of sound.source) (kinds_of part.columns) query part.expectations (content r.source) r.result sound.gives rows r.gives in
      let added = in_columns (in_row_order (surplus r.result.rows (content d)))
      (all_in_order (row_fits (kinds_of part.columns)) (surplus r.result.rows (content d)) (all_surplus (row_fits (kinds_of part.columns)) r.result.rows (content d) result)) in
      subst (λ (c : Change). all_fit d.definition.columns c.added ≡ true) (sym r.change) added

  refresh_shape : (b : Body) (refresh : Refresh) → IsSoundBody parts part b → BodyRefreshes state part.expectations b d refresh → all_fit d.definition.columns refresh.change.added ≡ true
  refresh_shape (body.Append flows) refresh sound r = absurd r
  refresh_shape (body.Cdc cdc) refresh sound r = absurd r
  refresh_shape (body.View query) refresh sound r = view_shape query refresh sound r

-- ---- what is found

module _ (parts : List Part) (ever : List LandingFile) (state : State) (stands : Stands parts ever state) (shape : AllHaveShape parts state) where
  pub take_shape : (batch : Take) (takes : Takes parts ever state batch) → BatchFits takes.dataset batch
  take_shape batch takes =
      let stood = found_stands parts ever state batch.table takes.part takes.dataset stands takes.found in
      let typed : IsTyped parts takes.part takes.dataset.definition = found_typed ever state parts batch.table parts state takes.part takes.dataset stands.each shape.typed takes.found.part_is takes.found.dataset_is in
      body_shape parts ever state stands shape takes.part takes.dataset stood.is_of takes.part.body batch (found_sound parts (λ p. IsSoundBody parts p p.body) batch.table parts stands.sound.each_dataset takes.part takes.found.part_is) typed.sequence typed.texts stood.is_of.body
      stood.is_of.keys stood.fills takes.takes

  pub renewal_shape : (refresh : Refresh) (r : Refreshes parts state refresh) → all_fit r.dataset.definition.columns refresh.change.added ≡ true
  renewal_shape refresh r =
      let stood = found_stands parts ever state refresh.view r.part r.dataset stands r.found in
      refresh_shape parts ever state stands shape r.part r.dataset stood.is_of r.part.body refresh (found_sound parts (λ p. IsSoundBody parts p p.body) refresh.view parts stands.sound.each_dataset r.part r.found.part_is) r.refreshes

  -- ---- the store after a commit

  one_found : (name : List ℕ) (d e : Dataset) → dataset_of state name ≡ Some d → dataset_of state name ≡ Some e → d ≡ e
  one_found name d e f g = ap (λ (o : Option Dataset). unwrap_or o d) (sym f ∙ g)

  take_rows : (batch : Take) → Takes parts ever state batch → list_all is_shaped (after_payload state (payload.Take batch)) ≡ true
  take_rows batch takes =
      updated_shaped (taken batch) batch.table state
      (λ d e. let same : takes.dataset ≡ d = one_found batch.table takes.dataset d takes.found.dataset_is e in
      grown_shaped d (found_shaped batch.table state d shape.rows e) batch.change (subst (λ (w : Dataset). all_fit w.definition.columns batch.change.added ≡ true) same (take_shape batch takes).0)) shape.rows

  renewal_rows : (refresh : Refresh) → Refreshes parts state refresh → list_all is_shaped (after_payload state (payload.Refresh refresh)) ≡ true
  renewal_rows refresh r =
      updated_shaped (refreshed refresh) refresh.view state
      (λ d e. let same : r.dataset ≡ d = one_found refresh.view r.dataset d r.found.dataset_is e in
      grown_shaped d (found_shaped refresh.view state d shape.rows e) refresh.change (subst (λ (w : Dataset). all_fit w.definition.columns refresh.change.added ≡ true) same (renewal_shape refresh r))) shape.rows

  pub folded_definitions : (whole ds : State) → definitions_of (map (folded_for whole) ds) ≡ definitions_of ds
  folded_definitions whole [] = refl
  folded_definitions whole (d ∷ ds) = ap (λ (rest : List Definition). d.definition ∷ rest) (folded_definitions whole ds)

  pub still_typed : (now : State) → definitions_of now ≡ definitions_of state → AreTyped parts parts (definitions_of now)
  still_typed now e = subst (AreTyped parts parts) (sym e) shape.typed

  pub commit_keeps : (new : List Part) (commit : Payload) → Commits parts ever state commit new → AllByRecursion IsKeptWell (after_payload state commit) → AllHaveShape new (after_payload state commit)
  commit_keeps new (payload.Define true list) commits kept =
      record { rows = fresh_shaped list; kept = kept; typed = subst (AreTyped new new) (sym (definitions-defined true list state tt)) commits.typed }
  commit_keeps new (payload.Define false list) commits kept =
      record { rows = defined_shaped state (drop (length state) list) shape.rows; kept = kept; typed = subst (AreTyped new new) (sym (definitions-defined false list state commits.begins.0)) commits.typed }
  commit_keeps new (payload.Take batch) commits kept =
      let now : State = after_payload state (payload.Take batch) in
      subst (λ (ps : List Part). AllHaveShape ps now) (sym commits.0)
      (record { rows = take_rows batch commits.1; kept = kept; typed = still_typed now (definitions-updated batch.table (taken batch) state (λ x. refl)) })
  commit_keeps new (payload.Refresh refresh) commits kept =
      let now : State = after_payload state (payload.Refresh refresh) in
      subst (λ (ps : List Part). AllHaveShape ps now) (sym commits.0)
      (record { rows = renewal_rows refresh commits.1; kept = kept; typed = still_typed now (definitions-updated refresh.view (refreshed refresh) state (λ x. refl)) })
  commit_keeps new (payload.Reset names) commits kept =
      let now : State = after_payload state (payload.Reset names) in
      subst (λ (ps : List Part). AllHaveShape ps now) (sym commits.0) (record { rows = reset_shaped names state shape.rows; kept = kept; typed = still_typed now (definitions-reset names state) })
  commit_keeps new (payload.Base base) commits kept =
      let folded : read_back base ≡ compacted state = ap read_back commits.1 ∙ saved-read_back (compacted state) in
      subst (λ (ps : List Part). AllHaveShape ps (read_back base)) (sym commits.0)
      (subst (AllHaveShape parts) (sym folded) (record { rows = compacted_shaped state shape.rows; kept = subst (AllByRecursion IsKeptWell) folded kept; typed = still_typed (compacted state) (folded_definitions state state) }))

pub none_shaped : AllHaveShape [] []
none_shaped = record { rows = refl; kept = tt; typed = tt }
