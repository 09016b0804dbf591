-- An update that has succeeded leaves nothing to refuse.
use Rattle.std.proofs.Common.{◌≡◌, ◌≢◌, inl, inr, ℕ, List, [], ◌∷◌, refl, sym, ap, subst, ◌∙◌, Bool, true, false, Option, Some, None, arith}
use Rattle.value_core.specs.declared.cursor.FilePlace.{FilePlace}
use Rattle.value_core.specs.Bags.{in_row_order}
use Rattle.landing_core.specs.declared.landing.LandingFile.{LandingFile}
use Rattle.landing_core.proofs.EntryLemmas.{listing_ascending}
use Rattle.commit_records.specs.declared.payload.Payload.{Payload}
use Rattle.store_state.specs.State.{Dataset, State, empty_state, after_payload, state_from, definitions_of}
use Rattle.store_core.specs.Reach.{EndsAt, IsLogEnd}
use Rattle.store_core.proofs.SparedLemmas.{log_spared}
use Rattle.table_update.specs.declared.end.UpdateEnd.{UpdateEnd}
use Rattle.table_update.specs.declared.end.UpdateEnd.TheVariants.{Current, Completed}
use Rattle.table_update.specs.declared.table.AppendTable.{AppendTable}
use Rattle.table_update.specs.Crash.{HasThem}
use Rattle.table_update.specs.Ends.{MayFlow, MayUpdate, NothingRefused}
use Rattle.table_update.specs.Flow.{batch, behind, lines, listing, reach}
use Rattle.table_update.specs.Table.{HoldsTable, define, rows_of}
use Rattle.table_update.specs.Update.{Found, LoadEnds, NoTableEnds, JudgeEnds, DefineEnds, Flows, Runs, LoadedEnds, Updates, IsSuccess, end_after}
use Rattle.table_update.proofs.ReachLemmas.{taken_holds, with_rows}
use Rattle.pipeline_run.proofs.CrashLemmas.{state_from_both}
use Rattle.pipeline_run.proofs.PlaceAgain.{IsRead, is_read}

-- ---- the flow

-- nothing was new
current_flow : (table : AppendTable) (files : List LandingFile) (room later : ℕ) (now : State) (dataset : Dataset) (places : List FilePlace) → HoldsTable table now dataset places
    → IsRead table.folder files (listing table files) places → MayFlow table files room later now
current_flow table files room later now dataset places holds read = record {
  dataset = dataset;
  places = places;
  holds = holds;
  none_shrank = read.none;
  version = λ news. absurd (news.moves read.again);
  room_for = λ news. absurd (news.moves read.again);
}

flow_left : (table : AppendTable) (files : List LandingFile) (room at later : ℕ) (base state : State) (before acked tried : List Payload) (end : UpdateEnd) → state_from base before ≡ state → Flows table files room at state before acked tried end → IsSuccess end
    → MayFlow table files room later (state_from base tried)
flow_left table files room at later base state before acked tried Current is flows well =
    let same : state_from base tried ≡ state = ap (state_from base) flows.ends.2 ∙ is in
    let holds : HoldsTable table (state_from base tried) flows.dataset flows.places = subst (λ (s : State). HoldsTable table s flows.dataset flows.places) (sym same) flows.holds in
    current_flow table files room later (state_from base tried) flows.dataset flows.places holds (record { form = flows.holds.form; none = flows.ends.0.0; again = flows.ends.0.1 })
flow_left table files room at later base state before acked tried (Completed count version) is flows well =
    let news = flows.ends.0.news in
    let now = reach table files flows.places in
    let rows = in_row_order (rows_of table (lines table files flows.places)) in
    let next = batch table files flows.places in
    let read = is_read table.folder files flows.places (listing table files) (listing_ascending table.folder files) flows.holds.form news.none_shrank in
    let both : state_from base tried ≡ state_from (state_from base before) (next ∷ []) = ap (state_from base) flows.ends.3 ∙ state_from_both base before (next ∷ []) in
    let same : state_from base tried ≡ after_payload state next = both ∙ ap (λ (s : State). after_payload s next) is in
    let holds : HoldsTable table (after_payload state next) (with_rows table rows now flows.dataset) now = taken_holds table state flows.dataset flows.places rows now flows.holds read.form in
    current_flow table files room later (state_from base tried) (with_rows table rows now flows.dataset) now (subst (λ (s : State). HoldsTable table s (with_rows table rows now flows.dataset) now) (sym same) holds) read
flow_left table files room at later base state before acked tried end is flows well = absurd well

-- ---- from the loaded store

has_some : (table : AppendTable) (files : List LandingFile) (room at : ℕ) (state : State) → MayFlow table files room at state → definitions_of state ≢ []
has_some table files room at state may none =
    let some : definitions_of state ≡ may.dataset.definition ∷ [] = ap definitions_of may.holds.only in
    let no : may.dataset.definition ∷ [] ≡ [] = sym some ∙ none in
    cc

define_well : (table : AppendTable) (room at : ℕ) (acked tried : List Payload) (end : UpdateEnd) → DefineEnds table room at acked tried end → IsSuccess end → ⊥
define_well table room at acked tried Current ends well = ends
define_well table room at acked tried (Completed count version) ends well = ends
define_well table room at acked tried end ends well = well

judge_well : (table : AppendTable) (state : State) (end : UpdateEnd) → JudgeEnds table state end → IsSuccess end → ⊥
judge_well table state Current ends well = ends
judge_well table state (Completed count version) ends well = ends
judge_well table state end ends well = well

none_well : (state : State) (end : UpdateEnd) → NoTableEnds state end → IsSuccess end → state ≡ []
none_well state Current ends well = ends
none_well state (Completed count version) ends well = absurd ends
none_well state end ends well = absurd well

load_well : (found : Found) (end : UpdateEnd) → LoadEnds found end → IsSuccess end → ⊥
load_well found Current ends well = ends
load_well found (Completed count version) ends well = ends
load_well found end ends well = well

run_left : (table : AppendTable) (files : List LandingFile) (room at later : ℕ) (state : State) (acked tried : List Payload) (end : UpdateEnd) → Runs table files room at state acked tried end → IsSuccess end → MayFlow table files room later (state_from state tried)
run_left table files room at later state acked tried end (inl p) well = absurd (define_well table room at acked tried end p.1 well)
run_left table files room at later state acked tried end (inr (inl p)) well =
    flow_left table files room (behind at (define table)) later state (after_payload empty_state (define table)) (define table ∷ []) acked tried end (ap (λ (s : State). after_payload s (define table)) p.0) p.2 well
run_left table files room at later state acked tried end (inr (inr p)) well = flow_left table files room at later state state [] acked tried end refl p.1 well

update_left : (plan : Option AppendTable) (found : Found) (at later : ℕ) (state : State) (acked tried : List Payload) (end : UpdateEnd) → LoadedEnds plan found.landing found.room state at acked tried end → IsSuccess end → MayUpdate plan found (state_from state tried) later
update_left None found at later state acked tried end ends well = ap (state_from state) ends.2 ∙ none_well state end ends.0 well
update_left (Some table) found at later state acked tried end (inl judged) well = absurd (judge_well table state end judged.0 well)
update_left (Some table) found at later state acked tried end (inr runs) well =
    let may = run_left table found.landing found.room at later state acked tried end runs well in
    inr (has_some table found.landing found.room later (state_from state tried) may, may)

-- ---- the file

abbrev with_bytes : Found → List ℕ → Found
with_bytes found bytes = record { bytes = bytes; room = found.room; landing = found.landing }

-- a file with all that such an update committed
pub nothing_after : (plan : Option AppendTable) (found : Found) (loaded : Bool) (acked tried : List Payload) (end : UpdateEnd) (after : List ℕ) → Updates plan found loaded acked tried end → IsSuccess end → HasThem found.bytes tried after
    → ((at : ℕ) → EndsAt at found.bytes → IsLogEnd (end_after at tried) after) → NothingRefused plan (with_bytes found after)
nothing_after plan found false acked tried end after updates well has goes = absurd (load_well found end updates.0 well)
nothing_after plan found true acked tried end after (state, at, loaded, ends) well has goes =
    let log = goes at loaded.ends in
    record {
      state = state_from state tried;
      at = end_after at tried;
      loaded = record { is = has state loaded.is; ends = inl log; room = λ begun. absurd (log_spared 18 (end_after at tried) after log (begun, omega arith)) };
      may_update = update_left plan (with_bytes found after) at (end_after at tried) state acked tried end ends well;
    }
