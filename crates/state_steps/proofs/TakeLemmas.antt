-- A batch makes of a table what it gives for all that it consumed.
use Rattle.std.proofs.Common.{◌≡◌, ℕ, List, [], ◌∷◌, ◌++◌, map, Bool, true, false, cond, if◌then◌else◌, Option, Some, None, refl, sym, ap, ◌∙◌, subst, arith, flat_map}
use Rattle.std.specs.Prelude.{filter_map}
use Rattle.std.proofs.lemmas.List.Elements.{filter_map-append}
use Rattle.value_core.specs.declared.change.Change.{Change}
use Rattle.value_core.specs.declared.cursor.Cursor.{Cursor}
use Rattle.value_core.specs.Bags.{SameBag, changed, count_of}
use Rattle.value_core.specs.NameFold.{same_name}
use Rattle.value_core.specs.Order.{Row, same_row}
use Rattle.value_core.proofs.BagLemmas.{count-in_row_order}
use Rattle.landing_core.specs.declared.landing.LandingFile.{LandingFile}
use Rattle.plan_core.specs.declared.expectation.Expectation.{Expectation}
use Rattle.plan_core.specs.declared.flow.AppendFlow.{AppendFlow}
use Rattle.flow_model.specs.Admission.{counts}
use Rattle.flow_model.specs.Append.{append_out, append_seen, append_stop, judged, kept_of, seen_of}
use Rattle.flow_model.proofs.AppendLemmas.{counts_add, counts_bag, stop_adds, stop_moves}
use Rattle.flow_model.proofs.BagTools.{bag_moves, parts_move}
use Rattle.commit_payloads.specs.declared.take.Take.{Take}
use Rattle.state_model.specs.After.{moved, taken}
use Rattle.state_model.specs.Dataset.{Dataset, State, content, cursor_in}
use Rattle.value_core.specs.Tallies.{added}
use Rattle.state_steps.specs.Consumed.{consumed, StreamStands, StreamsStand}
use Rattle.state_steps.specs.Parts.{stored_flow}
use Rattle.state_steps.specs.Stands.{AllRunThrough, AppendStands, Taking, origins_of, out_of, takings}
use Rattle.state_steps.specs.Stands as stands
use Rattle.state_steps.specs.Steps.{AppendTakes, flow_named}
use Rattle.state_steps.proofs.BatchLemmas.{between_adds, ends_stream}
use Rattle.state_steps.proofs.Lookups.{some_same}
use Rattle.state_steps.proofs.VersionLemmas.{count-append, content_after-append, same_changed}

-- ---- counts

-- counts that are added are those over both lists, and over each list of the same bag
pub counts_go_on : (xs : List Expectation) (was more now : List Row) → SameBag now (was ++ more) → added (counts xs was) (counts xs more) ≡ counts xs now
counts_go_on xs was more now same = sym (counts_add xs was more) ∙ sym (counts_bag xs now (was ++ more) same)

-- ---- what flows give

-- what is picked of more rows
pub picked_adds : (h : Row → Option Row) (was more now : List Row) → SameBag (was ++ more) now → SameBag (filter_map h now) (filter_map h was ++ filter_map h more)
picked_adds h was more now same a =
    sym (parts_move (λ x. cond (same_row a x) 1 0) h (was ++ more) now (bag_moves (was ++ more) now same)) ∙ ap (count_of a) (filter_map-append h was more)

module _ (ever : List LandingFile) (state : State) (xs : List Expectation) (name : List ℕ) (new : Cursor) (rows : List Row) where
  abbrev Goes : AppendFlow → Cursor → Type 0
  Goes flow old = StreamStands ever state flow.origin old → SameBag (consumed ever state flow.origin old ++ rows) (consumed ever state flow.origin new)

  -- all that the flows took by a picking, once one of them has gone on
  module _ (h : AppendFlow → Row → Option Row) where
    abbrev Picked : List Taking → List Row
    Picked list = flat_map (λ taking. filter_map (h taking.flow) taking.rows) list

    picked_by : (f : AppendFlow) (fs : List AppendFlow) (c : Cursor) (cs : List Cursor) (here : Bool) → same_name f.name name ≡ here
        → ((flow : AppendFlow) (old : Cursor) → flow_named fs name ≡ Some flow → cursor_in (map stored_flow fs) cs name ≡ Some old → Goes flow old → StreamsStand ever state (origins_of fs) cs
        → SameBag (Picked (takings ever state fs (moved (map stored_flow fs) cs name new))) (Picked (takings ever state fs cs) ++ filter_map (h flow) rows))
        → (flow : AppendFlow) (old : Cursor) → cond here (Some f) (flow_named fs name) ≡ Some flow → (if here then Some c else cursor_in (map stored_flow fs) cs name) ≡ Some old → Goes flow old
        → StreamStands ever state f.origin c → StreamsStand ever state (origins_of fs) cs
        → SameBag (Picked (takings ever state (f ∷ fs) (if here then new ∷ cs else c ∷ moved (map stored_flow fs) cs name new))) (Picked (takings ever state (f ∷ fs) (c ∷ cs)) ++ filter_map (h flow) rows)
    picked_by f fs c cs true is behind flow old e g goes reads rest a =
        let flow_is : f ≡ flow = some_same f flow e in
        let old_is : c ≡ old = some_same c old g in
        let goes_here : Goes f c = subst (λ w. Goes w c) (sym flow_is) (subst (λ w. Goes flow w) (sym old_is) goes) in
        let head = picked_adds (h f) (consumed ever state f.origin c) rows (consumed ever state f.origin new) (goes_here reads) a in
        let same_rows : count_of a (filter_map (h f) rows) ≡ count_of a (filter_map (h flow) rows) = ap (λ w. count_of a (filter_map (h w) rows)) flow_is in
        let others = Picked (takings ever state fs cs) in
        omega (
          arith,
          head,
          same_rows,
          count-append a (filter_map (h f) (consumed ever state f.origin new)) others,
          count-append a (filter_map (h f) (consumed ever state f.origin c)) (filter_map (h f) rows),
          count-append a (filter_map (h f) (consumed ever state f.origin c)) others,
          count-append a (filter_map (h f) (consumed ever state f.origin c) ++ others) (filter_map (h flow) rows),
        )
    picked_by f fs c cs false is behind flow old e g goes reads rest a =
        let first = filter_map (h f) (consumed ever state f.origin c) in
        let others = Picked (takings ever state fs cs) in
        let others_now = Picked (takings ever state fs (moved (map stored_flow fs) cs name new)) in
        omega (arith, behind flow old e g goes rest a, count-append a first others_now, count-append a first others, count-append a others (filter_map (h flow) rows), count-append a (first ++ others) (filter_map (h flow) rows))

    pub picked : (flows : List AppendFlow) (cursors : List Cursor) (flow : AppendFlow) (old : Cursor) → flow_named flows name ≡ Some flow → cursor_in (map stored_flow flows) cursors name ≡ Some old → Goes flow old
        → StreamsStand ever state (origins_of flows) cursors
        → SameBag (Picked (takings ever state flows (moved (map stored_flow flows) cursors name new))) (Picked (takings ever state flows cursors) ++ filter_map (h flow) rows)
    picked [] cursors flow old e g goes reads = cc
    picked (f ∷ fs) [] flow old e g goes reads = cc
    picked (f ∷ fs) (c ∷ cs) flow old e g goes reads =
        picked_by f fs c cs (same_name f.name name) refl (λ flow' old' e' g' goes' rest. picked fs cs flow' old' e' g' goes' rest) flow old e g goes reads.0 reads.1

  -- each still runs through, and its cursor stands
  abbrev Both : List AppendFlow → List Cursor → Type 0
  Both flows cursors = StreamsStand ever state (origins_of flows) cursors × AllRunThrough xs (takings ever state flows cursors)

  runs_by : (f : AppendFlow) (fs : List AppendFlow) (c : Cursor) (cs : List Cursor) (here : Bool)
      → ((flow : AppendFlow) (old : Cursor) → flow_named fs name ≡ Some flow → cursor_in (map stored_flow fs) cs name ≡ Some old → Goes flow old → StreamStands ever state flow.origin new → append_stop flow xs rows ≡ None
      → Both fs cs → Both fs (moved (map stored_flow fs) cs name new))
      → (flow : AppendFlow) (old : Cursor) → cond here (Some f) (flow_named fs name) ≡ Some flow → (if here then Some c else cursor_in (map stored_flow fs) cs name) ≡ Some old → Goes flow old
      → StreamStands ever state flow.origin new → append_stop flow xs rows ≡ None → Both (f ∷ fs) (c ∷ cs) → Both (f ∷ fs) (if here then new ∷ cs else c ∷ moved (map stored_flow fs) cs name new)
  runs_by f fs c cs true behind flow old e g goes ends runs both =
      let flow_is : f ≡ flow = some_same f flow e in
      let old_is : c ≡ old = some_same c old g in
      let goes_here : Goes f c = subst (λ w. Goes w c) (sym flow_is) (subst (λ w. Goes flow w) (sym old_is) goes) in
      let runs_here : append_stop f xs rows ≡ None = subst (λ w. append_stop w xs rows ≡ None) (sym flow_is) runs in
      let all : append_stop f xs (consumed ever state f.origin c ++ rows) ≡ None = stop_adds f xs (consumed ever state f.origin c) rows both.1.0 runs_here in (
        (subst (λ w. StreamStands ever state w.origin new) (sym flow_is) ends, both.0.1),
        (stop_moves f xs (consumed ever state f.origin c ++ rows) (consumed ever state f.origin new) (goes_here both.0.0) all, both.1.1),
      )
  runs_by f fs c cs false behind flow old e g goes ends runs both =
      let rest = behind flow old e g goes ends runs (both.0.1, both.1.1) in ((both.0.0, rest.0), (both.1.0, rest.1))

  pub runs_on : (flows : List AppendFlow) (cursors : List Cursor) (flow : AppendFlow) (old : Cursor) → flow_named flows name ≡ Some flow → cursor_in (map stored_flow flows) cursors name ≡ Some old → Goes flow old
      → StreamStands ever state flow.origin new → append_stop flow xs rows ≡ None → Both flows cursors → Both flows (moved (map stored_flow flows) cursors name new)
  runs_on [] cursors flow old e g goes ends runs both = cc
  runs_on (f ∷ fs) [] flow old e g goes ends runs both = cc
  runs_on (f ∷ fs) (c ∷ cs) flow old e g goes ends runs both =
      runs_by f fs c cs (same_name f.name name) (λ flow' old' e' g' goes' ends' runs' both'. runs_on fs cs flow' old' e' g' goes' ends' runs' both') flow old e g goes ends runs both

-- ---- an append table

pub content_taken : (batch : Take) (dataset : Dataset) → content (taken batch dataset) ≡ changed (content dataset) batch.change
content_taken batch dataset = content_after-append dataset.table.rows dataset.table.changes (batch.change ∷ [])

module _ (ever : List LandingFile) (state : State) (xs : List Expectation) (flows : List AppendFlow) (dataset : Dataset) (batch : Take) (flows_are : dataset.definition.flows ≡ map stored_flow flows)
    (stood : AppendStands ever state xs flows dataset) (takes : AppendTakes ever state xs flows dataset batch) where
  cursor_is : cursor_in (map stored_flow flows) dataset.cursors batch.flow ≡ Some takes.old
  cursor_is = ap (λ f. cursor_in f dataset.cursors batch.flow) (sym flows_are) ∙ takes.from

  now_cursors : moved dataset.definition.flows dataset.cursors batch.flow batch.cursor ≡ moved (map stored_flow flows) dataset.cursors batch.flow batch.cursor
  now_cursors = ap (λ f. moved f dataset.cursors batch.flow batch.cursor) flows_are

  abbrev now_takings : List Taking
  now_takings = takings ever state flows (moved (map stored_flow flows) dataset.cursors batch.flow batch.cursor)

  goes : StreamStands ever state takes.flow.origin takes.old → SameBag (consumed ever state takes.flow.origin takes.old ++ takes.rows) (consumed ever state takes.flow.origin batch.cursor)
  goes stands = between_adds ever state takes.flow.origin takes.old batch.cursor takes.rows stands takes.goes_on.between

  both : StreamsStand ever state (origins_of flows) (moved (map stored_flow flows) dataset.cursors batch.flow batch.cursor) × AllRunThrough xs now_takings
  both =
      runs_on ever state xs batch.flow batch.cursor takes.rows flows dataset.cursors takes.flow takes.old takes.is_flow cursor_is goes (ends_stream ever state takes.flow.origin batch.cursor takes.goes_on.ends) takes.runs
      (stood.reads, stood.runs)

  out_now : SameBag (flat_map (out_of xs) now_takings) (flat_map (out_of xs) (takings ever state flows dataset.cursors) ++ append_out takes.flow xs takes.rows)
  out_now = picked ever state xs batch.flow batch.cursor takes.rows (λ flow row. kept_of (judged flow xs row)) flows dataset.cursors takes.flow takes.old takes.is_flow cursor_is goes stood.reads

  seen_now : SameBag (flat_map (stands.seen_of xs) now_takings) (flat_map (stands.seen_of xs) (takings ever state flows dataset.cursors) ++ append_seen takes.flow xs takes.rows)
  seen_now = picked ever state xs batch.flow batch.cursor takes.rows (λ flow row. seen_of (judged flow xs row)) flows dataset.cursors takes.flow takes.old takes.is_flow cursor_is goes stood.reads

  no_row_goes : batch.change.removed ≡ []
  no_row_goes = ap (λ (c : Change). c.removed) takes.change

  rows_now : SameBag (content (taken batch dataset)) (flat_map (out_of xs) now_takings)
  rows_now a =
      let was = flat_map (out_of xs) (takings ever state flows dataset.cursors) in
      let more = append_out takes.flow xs takes.rows in
      let change_is : count_of a (changed (content dataset) batch.change) ≡ count_of a (content dataset ++ batch.change.added) = same_changed (content dataset) batch.change no_row_goes a in
      let added_is : count_of a batch.change.added ≡ count_of a more = ap (λ (c : Change). count_of a c.added) takes.change ∙ count-in_row_order a more in
      let content_is : count_of a (content (taken batch dataset)) ≡ count_of a (changed (content dataset) batch.change) = ap (count_of a) (content_taken batch dataset) in
      let before : count_of a (content dataset) ≡ count_of a was = stood.content_is a in
      let after : count_of a (flat_map (out_of xs) now_takings) ≡ count_of a (was ++ more) = out_now a in
      omega (arith, change_is, added_is, content_is, before, after, count-append a (content dataset) batch.change.added, count-append a was more)

  counts_now : added dataset.counts batch.counts ≡ counts xs (flat_map (stands.seen_of xs) now_takings)
  counts_now =
      (λ i. added (stood.counts_are i) (takes.counts_are i))
      ∙ counts_go_on xs (flat_map (stands.seen_of xs) (takings ever state flows dataset.cursors)) (append_seen takes.flow xs takes.rows) (flat_map (stands.seen_of xs) now_takings) seen_now

  pub append_takes : AppendStands ever state xs flows (taken batch dataset)
  append_takes = record {
    reads = subst (StreamsStand ever state (origins_of flows)) (sym now_cursors) both.0;
    runs = subst (λ c. AllRunThrough xs (takings ever state flows c)) (sym now_cursors) both.1;
    content_is = subst (λ c. SameBag (content (taken batch dataset)) (flat_map (out_of xs) (takings ever state flows c))) (sym now_cursors) rows_now;
    counts_are = subst (λ c. added dataset.counts batch.counts ≡ counts xs (flat_map (stands.seen_of xs) (takings ever state flows c))) (sym now_cursors) counts_now;
  }
