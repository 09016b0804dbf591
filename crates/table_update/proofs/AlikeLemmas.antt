-- Files that a store takes for the same, and updates that have nothing to refuse.
use Rattle.std.proofs.Common.{◌≡◌, ◌≢◌, ◌⊎◌, inl, inr, ℕ, ◌+◌, ◌^◌, ◌≤◌, List, [], ◌∷◌, length, sym, ap, subst, ◌∙◌, Bool, true, false, Option, Some, None}
use Rattle.commit_gate.specs.Log.{HasBodies, IsLive}
use Rattle.value_core.specs.declared.cursor.FilePlace.{FilePlace}
use Rattle.landing_core.specs.declared.landing.LandingFile.{LandingFile}
use Rattle.commit_records.specs.declared.definition.Definition.{Definition}
use Rattle.commit_records.specs.declared.payload.Payload.{Payload}
use Rattle.store_state.specs.State.{Dataset, State, empty_state, after_payload, state_from, version_of, definitions_of}
use Rattle.store_core.specs.Reach.{EndsAt, IsLogEnd}
use Rattle.store_core.specs.State.{HasState, IsBegun}
use Rattle.table_update.specs.Crash.{HasThem}
use Rattle.table_update.specs.declared.end.UpdateEnd.{UpdateEnd}
use Rattle.table_update.specs.declared.end.UpdateEnd.TheVariants.{Current, Completed}
use Rattle.table_update.specs.declared.table.AppendTable.{AppendTable}
use Rattle.table_update.specs.Ends.{Alike, IsOwn, MayFlow, MayUpdate, NothingRefused}
use Rattle.table_update.specs.Flow.{batch, behind, HasRoom}
use Rattle.table_update.specs.Table.{define, HoldsTable, IsDefinedBy}
use Rattle.table_update.specs.Update.{Found, LoadEnds, MayRun, NoTableEnds, Flows, Runs, LoadedEnds, Updates, IsSuccess, end_after}
use Rattle.table_update.proofs.EndLemmas.{HasOneState, FlowForm, HasShrunk, HasNone, LacksVersion, IsTooLong, Takes, IsOfFlow, small_enough, apart, listed_none, one_dataset, one_reading, flow_there, flow_of_end, loaded_there, not_both_loaded, judged_of, not_judged, define_ends, nothing_defined, end_without, is_without}

-- ---- files that are taken for the same

-- a file that has bodies is live
abbrev pub HasLife : Type 0
HasLife = (epoch : ℕ) (bodies : List (List ℕ)) (bytes : List ℕ) → HasBodies epoch bodies bytes → IsLive epoch bytes

not_begun : HasLife → (at : ℕ) (bytes : List ℕ) → IsLogEnd at bytes → IsBegun bytes → ⊥
not_begun lives at bytes end begun = begun.0 end.epoch (lives end.epoch end.bodies bytes end.contents)

alike_logs : HasLife → (state : State) (at : ℕ) (image other : List ℕ) → HasState image state → HasState other state → IsLogEnd at image → IsLogEnd at other → Alike image other
alike_logs lives state at image other is also ends goes = record {
  begun = ((λ b. absurd (not_begun lives at image ends b)), (λ b. absurd (not_begun lives at other goes b)));
  state = state;
  at = at;
  is = is;
  other_is = also;
  ends = inl ends;
  other_ends = inl goes;
}

loads_well : (found : Found) (end : UpdateEnd) → LoadEnds found end → IsSuccess end → ⊥
loads_well found Current ends success = ends
loads_well found (Completed read version) ends success = ends
loads_well found end ends success = success

pub settled_alike : HasLife → (plan : Option AppendTable) (found : Found) (loaded : Bool) (acked tried : List Payload) (end : UpdateEnd) (image other : List ℕ)
    → length found.bytes ≤ 2 ^ 40 → Updates plan found loaded acked tried end → IsSuccess end → HasThem found.bytes tried image → HasThem found.bytes tried other
    → ((at : ℕ) → EndsAt at found.bytes → IsLogEnd (end_after at tried) image) → ((at : ℕ) → EndsAt at found.bytes → IsLogEnd (end_after at tried) other) → Alike image other
settled_alike lives plan found false acked tried end image other small updates success is also ends goes = absurd (loads_well found end updates.0 success)
settled_alike lives plan found true acked tried end image other small (state, at, loaded, more) success is also ends goes =
    alike_logs lives (state_from state tried) (end_after at tried) image other (is state loaded.is) (also state loaded.is) (ends at loaded.ends) (goes at loaded.ends)

pub settled_alike_too : HasLife → (bytes also image other : List ℕ) (tried : List Payload) → Alike bytes also → HasThem bytes tried image → HasThem also tried other
    → ((at : ℕ) → EndsAt at bytes → IsLogEnd (end_after at tried) image) → ((at : ℕ) → EndsAt at also → IsLogEnd (end_after at tried) other) → Alike image other
settled_alike_too lives bytes also image other tried alike is has ends goes =
    alike_logs lives (state_from alike.state tried) (end_after alike.at tried) image other (is alike.state alike.is) (has alike.state alike.other_is) (ends alike.at alike.ends) (goes alike.at alike.other_ends)

-- ---- nothing to refuse

defined_by : (table : AppendTable) (state : State) (dataset : Dataset) (places : List FilePlace) → HoldsTable table state dataset places → IsDefinedBy table state
defined_by table state dataset places holds = ap definitions_of holds.only ∙ ap (λ (d : Definition). d ∷ []) holds.definition

form_succeeds : (table : AppendTable) (files : List LandingFile) (room at : ℕ) (state : State) (before tried : List Payload) (end : UpdateEnd) (form : FlowForm) (may : MayFlow table files room at state)
    → IsOfFlow table files room at may.dataset may.places before form tried end → IsSuccess end
form_succeeds table files room at state before tried end (HasShrunk listed) may p = absurd (listed_none _ listed p.0 may.none_shrank)
form_succeeds table files room at state before tried end HasNone may p = subst IsSuccess (sym p.2) tt
form_succeeds table files room at state before tried end LacksVersion may p = absurd (apart (version_of may.dataset) (2 ^ 62) (may.version p.0) p.1)
form_succeeds table files room at state before tried end IsTooLong may p = absurd (apart room (behind at (batch table files may.places) + 1) p.2 (may.room_for p.0))
form_succeeds table files room at state before tried end Takes may p = subst IsSuccess (sym p.1) tt

flow_succeeds : (table : AppendTable) (files : List LandingFile) (room at : ℕ) (state : State) (before acked tried : List Payload) (end : UpdateEnd) → MayFlow table files room at state → IsOwn end
    → Flows table files room at state before acked tried end → IsSuccess end
flow_succeeds table files room at state before acked tried end may own flows =
    let same : flows.dataset ≡ may.dataset = one_dataset table state may.dataset flows.dataset may.places flows.places may.holds flows.holds in
    let read : flows.places ≡ may.places = one_reading table state may.dataset flows.dataset may.places flows.places same may.holds flows.holds in
    let form = flow_of_end table files room at may.dataset may.places before acked tried end own
    (flow_there table files room at may.dataset flows.dataset may.places flows.places before acked tried end same read flows.ends) in
    form_succeeds table files room at state before tried end form.0 may form.1

-- what is there to be run from a loaded store
abbrev MayGoOn : AppendTable → List LandingFile → ℕ → ℕ → State → Type 0
MayGoOn table files room at state =
    ((state ≡ []) × HasRoom room at (define table) × MayFlow table files room (behind at (define table)) (after_payload empty_state (define table)))
    ⊎ ((definitions_of state ≢ []) × MayFlow table files room at state)

may_run : (table : AppendTable) (files : List LandingFile) (room at : ℕ) (state : State) → MayGoOn table files room at state → MayRun table state
may_run table files room at state (inl first) = inl first.0
may_run table files room at state (inr later) = inr (defined_by table state later.1.dataset later.1.places later.1.holds)

run_succeeds : (table : AppendTable) (files : List LandingFile) (room at : ℕ) (state : State) (acked tried : List Payload) (end : UpdateEnd) → MayGoOn table files room at state → IsOwn end
    → Runs table files room at state acked tried end → IsSuccess end
run_succeeds table files room at state acked tried end (inl first) own (inl p) = absurd (apart room (behind at (define table) + 1) (define_ends table room at acked tried end own p.1).0 first.1)
run_succeeds table files room at state acked tried end (inl first) own (inr (inl p)) =
    flow_succeeds table files room (behind at (define table)) (after_payload empty_state (define table)) (define table ∷ []) acked tried end first.2 own p.2
run_succeeds table files room at state acked tried end (inl first) own (inr (inr p)) = absurd (nothing_defined table state first.0 p.0)
run_succeeds table files room at state acked tried end (inr later) own (inl p) = absurd (later.0 (ap definitions_of p.0))
run_succeeds table files room at state acked tried end (inr later) own (inr (inl p)) = absurd (later.0 (ap definitions_of p.0))
run_succeeds table files room at state acked tried end (inr later) own (inr (inr p)) = flow_succeeds table files room at state [] acked tried end later.1 own p.1

table_succeeds : (table : AppendTable) (files : List LandingFile) (room at : ℕ) (state : State) (acked tried : List Payload) (end : UpdateEnd) → MayGoOn table files room at state → IsOwn end
    → LoadedEnds (Some table) files room state at acked tried end → IsSuccess end
table_succeeds table files room at state acked tried end may own (inl p) =
    let judged = judged_of table state end own p.0 in
    absurd (not_judged table state judged.0 end (may_run table files room at state may) judged.1)
table_succeeds table files room at state acked tried end may own (inr p) = run_succeeds table files room at state acked tried end may own p

-- without a table an empty store is current
without_succeeds : (state : State) (end : UpdateEnd) → state ≡ [] → IsOwn end → NoTableEnds state end → IsSuccess end
without_succeeds state end none own ends = subst IsSuccess (sym (is_without state end own ends ∙ ap (λ (s : State). end_without (definitions_of s)) none)) tt

loaded_succeeds : (plan : Option AppendTable) (found : Found) (at : ℕ) (state : State) (acked tried : List Payload) (end : UpdateEnd) → MayUpdate plan found state at → IsOwn end
    → LoadedEnds plan found.landing found.room state at acked tried end → IsSuccess end
loaded_succeeds None found at state acked tried end may own ends = without_succeeds state end may own ends.0
loaded_succeeds (Some table) found at state acked tried end may own ends = table_succeeds table found.landing found.room at state acked tried end may own ends

pub update_succeeds : HasOneState → (plan : Option AppendTable) (found : Found) (loaded : Bool) (acked tried : List Payload) (end : UpdateEnd)
    → length found.bytes ≤ 2 ^ 40 → Updates plan found loaded acked tried end → IsOwn end → NothingRefused plan found → IsSuccess end
update_succeeds law plan found false acked tried end small p own none =
    absurd (not_both_loaded law found none.state none.at end (small_enough (length found.bytes) small) none.loaded own p.0)
update_succeeds law plan found true acked tried end small (state, at, loaded, ends) own none =
    let short = small_enough (length found.bytes) small in
    loaded_succeeds plan found none.at none.state acked tried end none.may_update own
    (loaded_there plan found.landing found.room none.at at none.state state acked tried end (law.one found.bytes state none.state short loaded.is none.loaded.is)
    (law.one_end found.bytes at none.at short loaded.ends none.loaded.ends) ends)
