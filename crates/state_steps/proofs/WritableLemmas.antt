-- The changes, cursors and events of an allowed commit have the form in which they are written.
use Rattle.std.proofs.Common.{◌≡◌, ℕ, List, [], ◌∷◌, length, Bool, true, false, ◌&&◌, if◌then◌else◌, Some, Result, Ok, Err, refl, sym, ap, ◌∙◌, subst, arith}
use Rattle.std.specs.Prelude.{bytes_eq, ◌==◌}
use Rattle.std.specs.List.{list_all, list_any}
use Rattle.std.proofs.lemmas.Bool.{and_from}
use Rattle.std.proofs.lemmas.Slice.Eq.{bytes_eq-Decides}
use Rattle.value_core.specs.declared.cursor.Cursor.{Cursor}
use Rattle.value_core.specs.declared.cursor.Cursor.TheVariants.{Files, At}
use Rattle.value_core.specs.declared.event.Event.{Event}
use Rattle.value_core.specs.declared.event.EventKind.{EventKind}
use Rattle.value_core.specs.declared.event.EventKind.TheVariants.{Upsert, Delete, Truncate}
use Rattle.value_core.specs.Bags.{in_row_order}
use Rattle.value_core.specs.Changes.{IsChange, change_of}
use Rattle.value_core.specs.Order.{Row, is_null}
use Rattle.value_core.proofs.BagLemmas.{order-in_row_order}
use Rattle.value_core.proofs.ChangeLemmas.{net_form}
use Rattle.segment_rows.specs.EventParts.{has_its_parts}
use Rattle.landing_core.specs.declared.landing.LandingFile.{LandingFile}
use Rattle.row_expr.specs.Eval.{Fault}
use Rattle.plan_core.specs.declared.expectation.Expectation.{Expectation}
use Rattle.plan_core.specs.declared.expectation.Verdict.{Verdict}
use Rattle.plan_core.specs.declared.expectation.Verdict.TheVariants.{Keep, DropIt, Fail}
use Rattle.plan_core.specs.declared.flow.AppendFlow.{AppendFlow}
use Rattle.plan_core.specs.declared.flow.Cdc.{Cdc}
use Rattle.plan_core.specs.declared.flow.Origin.{Origin}
use Rattle.plan_core.specs.declared.flow.Origin.TheVariants as origin
use Rattle.plan_core.specs.declared.plan.Body.{Body}
use Rattle.plan_core.specs.declared.plan.Body.TheVariants as body
use Rattle.plan_core.specs.declared.plan.Dataset.{Dataset as Part}
use Rattle.flow_model.specs.Append.{append_out}
use Rattle.flow_model.specs.Events.{fresh}
use Rattle.flow_model.specs.Target.{target_rows}
use Rattle.flow_model.specs.Feed.{NoSequence, by_kind, by_verdict, event_in, event_of, given, kind_of, reading, verdict_on}
use Rattle.flow_kinds.proofs.EventFits.{fresh_fit}
use Rattle.flow_kinds.proofs.FitTools.{all_picked, all_true, head_of, some_is, tail_of}
use Rattle.commit_payloads.specs.declared.definition.Definition.{Definition}
use Rattle.commit_payloads.specs.declared.definition.StoredBody.TheVariants.{Scd1, Scd2}
use Rattle.commit_payloads.specs.declared.take.Refresh.{Refresh}
use Rattle.commit_payloads.specs.declared.take.Take.{Take}
use Rattle.commit_payloads.specs.Forms.{IsBatch, IsProgress, IsRenewal, all_fit, all_have_their_parts, fits_its_body, fits_the_body}
use Rattle.state_model.specs.After.{events_with}
use Rattle.state_model.specs.Dataset.{Dataset, State, content}
use Rattle.state_steps.specs.Parts.{AreTyped, IsOf, IsTyped, sequence_kinds, stored_body, stored_flows, stored_keys}
use Rattle.state_steps.specs.Steps.{AppendTakes, AreOf, BodyRefreshes, BodyTakes, EndsNow, FeedTakes, Refreshes, Takes}

-- ---- cursors and changes

ends_progress : (ever : List LandingFile) (state : State) (from : Origin) (cursor : Cursor) → EndsNow ever state from cursor → IsProgress cursor
ends_progress ever state (origin.Files dir shape) (Files places) ends = ends.0
ends_progress ever state (origin.Table name) (At v) ends = tt
ends_progress ever state from cursor ends = absurd ends

adding_form : (rows : List Row) → IsChange (change_of [] (in_row_order rows))
adding_form rows = (tt, order-in_row_order rows, λ row h. absurd (omega (arith, h)))

-- ---- events

pub events_have : (events : List Event) → list_all has_its_parts events ≡ true → all_have_their_parts events ≡ true
events_have [] all = refl
events_have (event ∷ events) all = and_from (has_its_parts event) (all_have_their_parts events) (head_of has_its_parts event events all) (events_have events (tail_of has_its_parts event events all))

module _ (cdc : Cdc) (xs : List Expectation) (row : Row) where
  event_has : (kind : EventKind) → has_its_parts (event_of cdc row kind) ≡ true
  event_has Upsert = refl
  event_has Delete = refl
  event_has Truncate = refl

  by_admission : (event e : Event) (v : Result Verdict Fault) → has_its_parts e ≡ true → event_in (by_verdict e v) ≡ Some event → has_its_parts event ≡ true
  by_admission event e (Err fault) has h = cc
  by_admission event e (Ok (Fail name)) has h = cc
  by_admission event e (Ok DropIt) has h = cc
  by_admission event e (Ok Keep) has h = subst (λ w. has_its_parts w ≡ true) (some_is e event h) has

  by_sequence : (event e : Event) (v : Result Verdict Fault) (b : Bool) → has_its_parts e ≡ true → event_in (if b then NoSequence else by_verdict e v) ≡ Some event → has_its_parts event ≡ true
  by_sequence event e v true has h = cc
  by_sequence event e v false has h = by_admission event e v has h

  by_reading : (event : Event) (r : Result EventKind Fault) → event_in (by_kind cdc xs row r) ≡ Some event → has_its_parts event ≡ true
  by_reading event (Err fault) h = cc
  by_reading event (Ok kind) h =
      let e : Event = event_of cdc row kind in by_sequence event e (verdict_on xs e.kind e.columns) (list_any is_null e.sequence) (event_has kind) h

pub given_have : (cdc : Cdc) (xs : List Expectation) (rows : List Row) → list_all has_its_parts (given cdc xs rows) ≡ true
given_have cdc xs rows =
    all_picked has_its_parts (λ row. true) (λ row. event_in (reading cdc xs row)) (λ row u event h. by_reading cdc xs row event (kind_of cdc row) h) rows (all_true rows)

-- ---- a batch and a refresh

append_batch : (ever : List LandingFile) (state : State) (xs : List Expectation) (flows : List AppendFlow) (d : Dataset) (batch : Take) → AppendTakes ever state xs flows d batch → IsBatch batch
append_batch ever state xs flows d batch takes = (
  ends_progress ever state takes.flow.origin batch.cursor takes.goes_on.ends,
  subst IsChange (sym takes.change) (adding_form (append_out takes.flow xs takes.rows)),
  subst (λ (es : List Event). all_have_their_parts es ≡ true) (sym takes.no_events) refl,
)

feed_batch : (ever : List LandingFile) (state : State) (xs : List Expectation) (cdc : Cdc) (d : Dataset) (batch : Take) → FeedTakes ever state xs cdc d batch → IsBatch batch
feed_batch ever state xs cdc d batch takes = (
  ends_progress ever state cdc.origin batch.cursor takes.goes_on.ends,
  subst IsChange (sym takes.change) (net_form (content d) (target_rows cdc (events_with d.events batch.events))),
  subst (λ (es : List Event). all_have_their_parts es ≡ true) (sym takes.events_are) (events_have (fresh d.events (given cdc xs takes.rows)) (fresh_fit has_its_parts d.events (given cdc xs takes.rows) (given_have cdc xs takes.rows))),
)

body_batch : (ever : List LandingFile) (state : State) (xs : List Expectation) (b : Body) (d : Dataset) (batch : Take) → BodyTakes ever state xs b d batch → IsBatch batch
body_batch ever state xs (body.Append flows) d batch takes = append_batch ever state xs flows d batch takes
body_batch ever state xs (body.Cdc cdc) d batch takes = feed_batch ever state xs cdc d batch takes
body_batch ever state xs (body.View query) d batch takes = absurd takes

pub take_writable : (parts : List Part) (ever : List LandingFile) (state : State) (batch : Take) → Takes parts ever state batch → IsBatch batch
take_writable parts ever state batch takes = body_batch ever state takes.part.expectations takes.part.body takes.dataset batch takes.takes

body_renewal : (state : State) (xs : List Expectation) (b : Body) (d : Dataset) (refresh : Refresh) → BodyRefreshes state xs b d refresh → IsRenewal refresh
body_renewal state xs (body.Append flows) d refresh r = absurd r
body_renewal state xs (body.Cdc cdc) d refresh r = absurd r
body_renewal state xs (body.View query) d refresh r = (subst IsProgress (sym r.cursor_is) tt, subst IsChange (sym r.change) (net_form (content d) r.result.rows))

pub refresh_writable : (parts : List Part) (state : State) (refresh : Refresh) → Refreshes parts state refresh → IsRenewal refresh
refresh_writable parts state refresh r = body_renewal state r.part.expectations r.part.body r.dataset refresh r.refreshes

-- ---- definitions

same_bytes : (a b : List ℕ) → a ≡ b → bytes_eq a b ≡ true
same_bytes a b e = (bytes_eq-Decides a b).1 e

none_of_each : (definition : Definition) → definition.keys ≡ [] → definition.sequence ≡ [] → (length definition.keys == 0 && length definition.sequence == 0) ≡ true
none_of_each definition keys sequence =
    and_from (length definition.keys == 0) (length definition.sequence == 0) (ap (λ (ks : List ℕ). length ks == 0) keys) (λ i. length (sequence i) == 0)

feed_form : (definition : Definition) (b : Bool) → fits_the_body (if b then Scd2 else Scd1) definition ≡ true
feed_form definition true = refl
feed_form definition false = refl

form_of : (plan : List Part) (part : Part) (b : Body) (definition : Definition) → definition.name ≡ part.name → definition.keys ≡ stored_keys b → definition.flows ≡ stored_flows part b → definition.sequence ≡ sequence_kinds plan part b
    → fits_the_body (stored_body b) definition ≡ true
form_of plan part (body.Append flows) definition name keys flows_are sequence = none_of_each definition keys sequence
form_of plan part (body.Cdc cdc) definition name keys flows_are sequence = feed_form definition cdc.scd2
form_of plan part (body.View query) definition name keys flows_are sequence =
    rw flows_are (and_from (length definition.keys == 0 && length definition.sequence == 0) (bytes_eq part.name definition.name) (none_of_each definition keys sequence) (same_bytes part.name definition.name (sym name)))

one_form : (plan : List Part) (part : Part) (definition : Definition) → IsOf part definition → IsTyped plan part definition → fits_its_body definition ≡ true
one_form plan part definition is typed =
    ap (λ b. fits_the_body b definition) is.body ∙ form_of plan part part.body definition is.name is.keys is.flows typed.sequence

pub all_forms : (plan parts : List Part) (list : List Definition) → AreOf parts list → AreTyped plan parts list → all_fit list ≡ true
all_forms plan [] [] are typed = refl
all_forms plan [] (definition ∷ list) are typed = absurd are
all_forms plan (part ∷ parts) [] are typed = absurd are
all_forms plan (part ∷ parts) (definition ∷ list) are typed =
    and_from (fits_its_body definition) (all_fit list) (one_form plan part definition are.0 typed.0) (all_forms plan parts list are.1 typed.1)
