-- A file that is shorter than its place stops an update.
use Rattle.std.proofs.Common.{◌≡◌, inl, inr, ℕ, ◌^◌, ◌≤◌, List, [], ◌∷◌, length, Bool, true, false, Some, refl, sym, ap, subst, ◌∙◌}
use Rattle.value_core.specs.declared.cursor.FilePlace.{FilePlace}
use Rattle.landing_core.specs.declared.landing.LandingFile.{LandingFile}
use Rattle.landing_core.specs.declared.landing.Listed.{Listed}
use Rattle.commit_records.specs.declared.definition.Definition.{Definition}
use Rattle.commit_records.specs.declared.payload.Payload.{Payload}
use Rattle.store_state.specs.State.{Dataset, State, definitions_of}
use Rattle.table_update.specs.declared.end.UpdateEnd.{UpdateEnd}
use Rattle.table_update.specs.declared.end.UpdateEnd.TheVariants as ends
use Rattle.table_update.specs.declared.table.AppendTable.{AppendTable}
use Rattle.table_update.specs.Ends.{IsOwn}
use Rattle.table_update.specs.Flow.{FlowEnds, shrunk}
use Rattle.table_update.specs.Table.{HoldsTable, IsDefinedBy}
use Rattle.table_update.specs.Update.{Found, Loaded, Runs, LoadedEnds, Updates}
use Rattle.table_update.proofs.EndLemmas.{HasOneState, judged_of, listed_none, not_both_loaded, not_judged, small_enough}
use Rattle.table_update.proofs.StandSteps.{one_table}
use Rattle.pipeline_run.specs.declared.outcome.Status.TheVariants as status
use Rattle.pipeline_run.specs.Report.{status_of_end}

flow_stops : (table : AppendTable) (files : List LandingFile) (room at : ℕ) (dataset : Dataset) (places : List FilePlace) (before acked tried : List Payload) (end : UpdateEnd) (listed : Listed) → shrunk table files places ≡ Some listed → IsOwn end
    → FlowEnds table files room at dataset places before acked tried end → status_of_end end ≡ status.Stopped
flow_stops table files room at dataset places before acked tried (ends.Shrunk file cursor size) listed is own flows = refl
flow_stops table files room at dataset places before acked tried ends.Current listed is own flows = absurd (listed_none (shrunk table files places) listed is flows.0.0)
flow_stops table files room at dataset places before acked tried (ends.Completed count version) listed is own flows = absurd (listed_none (shrunk table files places) listed is flows.0.news.none_shrank)
flow_stops table files room at dataset places before acked tried (ends.Full end limit) listed is own flows = absurd (listed_none (shrunk table files places) listed is flows.0.0.none_shrank)
flow_stops table files room at dataset places before acked tried (ends.VersionFull name) listed is own flows = absurd (listed_none (shrunk table files places) listed is flows.0.0.none_shrank)
flow_stops table files room at dataset places before acked tried (ends.Foreign len) listed is own flows = absurd flows.0
flow_stops table files room at dataset places before acked tried (ends.Damaged place) listed is own flows = absurd flows.0
flow_stops table files room at dataset places before acked tried (ends.Removed name) listed is own flows = absurd flows.0
flow_stops table files room at dataset places before acked tried (ends.Changed name stored given) listed is own flows = absurd flows.0
flow_stops table files room at dataset places before acked tried (ends.Unfit name) listed is own flows = absurd flows.0
flow_stops table files room at dataset places before acked tried ends.LoadFailed listed is own flows = absurd own
flow_stops table files room at dataset places before acked tried ends.CommitFailed listed is own flows = absurd own
flow_stops table files room at dataset places before acked tried ends.LandingFailed listed is own flows = absurd own
flow_stops table files room at dataset places before acked tried ends.Memory listed is own flows = absurd own

not_empty : (table : AppendTable) (state : State) (dataset : Dataset) (places : List FilePlace) → HoldsTable table state dataset places → state ≡ [] → ⊥
not_empty table state dataset places holds none = let no : dataset ∷ [] ≡ [] = sym holds.only ∙ none in cc

run_stops : (table : AppendTable) (files : List LandingFile) (room at : ℕ) (state : State) (dataset : Dataset) (places : List FilePlace) (acked tried : List Payload) (end : UpdateEnd) (listed : Listed) → HoldsTable table state dataset places
    → shrunk table files places ≡ Some listed → IsOwn end → Runs table files room at state acked tried end → status_of_end end ≡ status.Stopped
run_stops table files room at state dataset places acked tried end listed holds is own (inl p) = absurd (not_empty table state dataset places holds p.0)
run_stops table files room at state dataset places acked tried end listed holds is own (inr (inl p)) = absurd (not_empty table state dataset places holds p.0)
run_stops table files room at state dataset places acked tried end listed holds is own (inr (inr p)) =
    let same : p.1.places ≡ places = one_table table state p.1.dataset dataset p.1.places places p.1.holds holds in
    flow_stops table files room at p.1.dataset p.1.places [] acked tried end listed (ap (shrunk table files) same ∙ is) own p.1.ends

defined_by : (table : AppendTable) (state : State) (dataset : Dataset) (places : List FilePlace) → HoldsTable table state dataset places → IsDefinedBy table state
defined_by table state dataset places holds = ap definitions_of holds.only ∙ ap (λ (d : Definition). d ∷ []) holds.definition

loaded_stops : (table : AppendTable) (files : List LandingFile) (room at : ℕ) (state : State) (dataset : Dataset) (places : List FilePlace) (acked tried : List Payload) (end : UpdateEnd) (listed : Listed) → HoldsTable table state dataset places
    → shrunk table files places ≡ Some listed → IsOwn end → LoadedEnds (Some table) files room state at acked tried end → status_of_end end ≡ status.Stopped
loaded_stops table files room at state dataset places acked tried end listed holds is own (inl p) =
    let judged = judged_of table state end own p.0 in
    absurd (not_judged table state judged.0 end (inr (defined_by table state dataset places holds)) judged.1)
loaded_stops table files room at state dataset places acked tried end listed holds is own (inr p) = run_stops table files room at state dataset places acked tried end listed holds is own p

pub update_stops : HasOneState → (table : AppendTable) (found : Found) (there : State) (place : ℕ) (dataset : Dataset) (places : List FilePlace) (listed : Listed) (loaded : Bool) (acked tried : List Payload) (end : UpdateEnd) → length found.bytes ≤ 2 ^ 40
    → Loaded found there place → HoldsTable table there dataset places → shrunk table found.landing places ≡ Some listed → IsOwn end → Updates (Some table) found loaded acked tried end → status_of_end end ≡ status.Stopped
update_stops law table found there place dataset places listed false acked tried end small has holds is own updates =
    absurd (not_both_loaded law found there place end (small_enough (length found.bytes) small) has own updates.0)
update_stops law table found there place dataset places listed true acked tried end small has holds is own (state, at, loaded, ends) =
    let same : there ≡ state = law.one found.bytes there state (small_enough (length found.bytes) small) has.is loaded.is in
    loaded_stops table found.landing found.room at state dataset places acked tried end listed (subst (λ (s : State). HoldsTable table s dataset places) same holds) is own ends
