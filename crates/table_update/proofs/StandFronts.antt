-- Each front of the payloads that an update tries leaves a table standing.
use Rattle.std.proofs.Common.{◌≡◌, ◌≢◌, ◌⊎◌, inl, inr, ℕ, ◌^◌, ◌≤◌, List, [], ◌∷◌, ◌++◌, length, Bool, true, false, refl, sym, ap, ◌∙◌, subst, append-nil, arith, Option, Some, None}
use Rattle.value_core.specs.declared.cursor.FilePlace.{FilePlace}
use Rattle.landing_core.specs.declared.landing.LandingFile.{LandingFile}
use Rattle.landing_core.specs.Folders.{HoldsPresent}
use Rattle.commit_records.specs.declared.payload.Payload.{Payload}
use Rattle.store_state.specs.State.{Dataset, State, after_payload, empty_state, state_from}
use Rattle.store_core.specs.State.{HasState}
use Rattle.store_core.proofs.StateLemmas.{one_state}
use Rattle.table_update.specs.declared.end.UpdateEnd.{UpdateEnd}
use Rattle.table_update.specs.declared.end.UpdateEnd.TheVariants.{LoadFailed, Full, CommitFailed, Completed, Memory}
use Rattle.table_update.specs.declared.table.AppendTable.{AppendTable}
use Rattle.table_update.specs.Flow.{FlowEnds, HasNews, batch, behind}
use Rattle.table_update.specs.Stands.{IsFor, Stands, TableStands}
use Rattle.table_update.specs.Table.{define}
use Rattle.table_update.specs.Update.{DefineEnds, Flows, Found, LoadedEnds, Updates}
use Rattle.table_update.proofs.StandSteps.{begins_standing, one_table, takes_standing}

-- ---- which payloads were tried

-- A flow tried nothing, or the batch of what is new. What was tried is acknowledged, or the batch isn't.
abbrev FlowTries : AppendTable → List LandingFile → List FilePlace → List Payload → List Payload → List Payload → Type 0
FlowTries table files places before acked tried =
    ((tried ≡ before) × (acked ≡ before))
    ⊎ (HasNews table files places × (tried ≡ before ++ batch table files places ∷ []) × ((acked ≡ before) ⊎ (acked ≡ tried)))

flow_tries : (table : AppendTable) (files : List LandingFile) (room at : ℕ) (dataset : Dataset) (places : List FilePlace) (before acked tried : List Payload) (end : UpdateEnd) → FlowEnds table files room at dataset places before acked tried end → FlowTries table files places before acked tried
flow_tries table files room at dataset places before acked tried (Completed read version) ends = inr (ends.0.news, ends.3, inr (ends.2 ∙ sym ends.3))
flow_tries table files room at dataset places before acked tried CommitFailed ends = inr (ends.0.news, ends.2, inl ends.1)
flow_tries table files room at dataset places before acked tried end ends = inl (ends.2, ends.1)

-- where the table isn't there, none is acknowledged, and its definition is tried or isn't
abbrev DefineTries : AppendTable → List Payload → List Payload → Type 0
DefineTries table acked tried = (acked ≡ []) × ((tried ≡ []) ⊎ (tried ≡ define table ∷ []))

define_tries : (table : AppendTable) (room at : ℕ) (acked tried : List Payload) (end : UpdateEnd) → DefineEnds table room at acked tried end → DefineTries table acked tried
define_tries table room at acked tried (Full end limit) ends = (ends.1, inl ends.2)
define_tries table room at acked tried CommitFailed ends = (ends.1, inr ends.2)
define_tries table room at acked tried Memory ends = (ends.0, inl ends.1)
define_tries table room at acked tried end ends = absurd ends

-- what was acknowledged is a front of what was tried
abbrev pub IsFrontOf : List Payload → List Payload → Type 0
IsFrontOf tried acked = (rest : List Payload) × (tried ≡ acked ++ rest)

front_if_none : (acked tried : List Payload) → acked ≡ [] → IsFrontOf tried acked
front_if_none acked tried none = (tried, rw none refl)

front_if_same : (acked tried : List Payload) → tried ≡ acked → IsFrontOf tried acked
front_if_same acked tried same = ([], same ∙ sym (append-nil acked))

flow_front : (table : AppendTable) (files : List LandingFile) (places : List FilePlace) (before acked tried : List Payload) → FlowTries table files places before acked tried → IsFrontOf tried acked
flow_front table files places before acked tried (inl none) = front_if_same acked tried (none.0 ∙ sym none.1)
flow_front table files places before acked tried (inr (news, is, inl early)) = (batch table files places ∷ [], is ∙ ap (λ (payloads : List Payload). payloads ++ batch table files places ∷ []) (sym early))
flow_front table files places before acked tried (inr (news, is, inr all)) = front_if_same acked tried (sym all)

flows_front : (table : AppendTable) (files : List LandingFile) (room at : ℕ) (state : State) (before acked tried : List Payload) (end : UpdateEnd) → Flows table files room at state before acked tried end → IsFrontOf tried acked
flows_front table files room at state before acked tried end flows =
    flow_front table files flows.places before acked tried (flow_tries table files room at flows.dataset flows.places before acked tried end flows.ends)

table_front : (table : AppendTable) (files : List LandingFile) (room : ℕ) (state : State) (at : ℕ) (acked tried : List Payload) (end : UpdateEnd) → LoadedEnds (Some table) files room state at acked tried end → IsFrontOf tried acked
table_front table files room state at acked tried end (inl judged) = front_if_none acked tried judged.1
table_front table files room state at acked tried end (inr (inl defines)) = front_if_none acked tried (define_tries table room at acked tried end defines.1).0
table_front table files room state at acked tried end (inr (inr (inl first))) = flows_front table files room (behind at (define table)) (after_payload empty_state (define table)) (define table ∷ []) acked tried end first.2
table_front table files room state at acked tried end (inr (inr (inr next))) = flows_front table files room at state [] acked tried end next.1

loaded_front : (plan : Option AppendTable) (files : List LandingFile) (room : ℕ) (state : State) (at : ℕ) (acked tried : List Payload) (end : UpdateEnd) → LoadedEnds plan files room state at acked tried end → IsFrontOf tried acked
loaded_front None files room state at acked tried end ends = front_if_none acked tried ends.1
loaded_front (Some table) files room state at acked tried end ends = table_front table files room state at acked tried end ends

pub acked_front : (plan : Option AppendTable) (found : Found) (loaded : Bool) (acked tried : List Payload) (end : UpdateEnd) → Updates plan found loaded acked tried end → IsFrontOf tried acked
acked_front plan found false acked tried end updates = front_if_none acked tried updates.1
acked_front plan found true acked tried end (state, at, is, ends) = loaded_front plan found.landing found.room state at acked tried end ends

-- ---- the state after each front

-- a fact holds of a state, and of that after each front of these payloads
abbrev pub HoldsOfFronts : (State → Type 0) → State → List Payload → Type 0
HoldsOfFronts fact state [] = fact state
HoldsOfFronts fact state (payload ∷ more) = fact state × HoldsOfFronts fact (after_payload state payload) more

of_first : (fact : State → Type 0) (state : State) (tried : List Payload) → HoldsOfFronts fact state tried → fact state
of_first fact state [] all = all
of_first fact state (payload ∷ more) all = all.0

pub of_front : (fact : State → Type 0) (state : State) (tried front later : List Payload) → tried ≡ front ++ later → HoldsOfFronts fact state tried → fact (state_from state front)
of_front fact state tried [] later is all = of_first fact state tried all
of_front fact state [] (first ∷ front) later is all = absurd (cc is)
of_front fact state (payload ∷ more) (first ∷ front) later is all =
    let same : payload ≡ first = cc in
    let rest : more ≡ front ++ later = cc in
    of_front fact (after_payload state first) more front later rest (subst (λ p. HoldsOfFronts fact (after_payload state p) more) same all.1)

-- what a flow does to a table that stands: behind what was tried before it, each front leaves it standing
abbrev FlowStands : AppendTable → List LandingFile → State → List Payload → List Payload → Type 0
FlowStands table ever state before tried = (more : List Payload) × (tried ≡ before ++ more) × HoldsOfFronts (Stands table ever) state more

flow_stands : (table : AppendTable) (files ever : List LandingFile) (state : State) (before acked tried : List Payload) → HoldsPresent files ever → (stands : TableStands table ever state) → FlowTries table files stands.places before acked tried → FlowStands table ever state before tried
flow_stands table files ever state before acked tried held stands (inl none) = ([], none.0 ∙ sym (append-nil before), inr stands)
flow_stands table files ever state before acked tried held stands (inr (news, is, known)) = (batch table files stands.places ∷ [], is, (inr stands, inr (takes_standing table files ever state held stands news)))

flows_stand : (table : AppendTable) (files ever : List LandingFile) (room at : ℕ) (state : State) (before acked tried : List Payload) (end : UpdateEnd) → HoldsPresent files ever → TableStands table ever state → Flows table files room at state before acked tried end → FlowStands table ever state before tried
flows_stand table files ever room at state before acked tried end held stands flows =
    let same : flows.places ≡ stands.places = one_table table state flows.dataset stands.dataset flows.places stands.places flows.holds stands.holds in
    let tries : FlowTries table files flows.places before acked tried = flow_tries table files room at flows.dataset flows.places before acked tried end flows.ends in
    flow_stands table files ever state before acked tried held stands (subst (λ places. FlowTries table files places before acked tried) same tries)

none_tried : (table : AppendTable) (ever : List LandingFile) (state : State) (tried : List Payload) → Stands table ever state → tried ≡ [] → HoldsOfFronts (Stands table ever) state tried
none_tried table ever state tried stands none = subst (HoldsOfFronts (Stands table ever) state) (sym none) stands

define_stands : (table : AppendTable) (ever : List LandingFile) (state : State) (tried : List Payload) → state ≡ [] → (tried ≡ []) ⊎ (tried ≡ define table ∷ []) → HoldsOfFronts (Stands table ever) state tried
define_stands table ever state tried new (inl none) = none_tried table ever state tried (inl new) none
define_stands table ever state tried new (inr one) =
    subst (HoldsOfFronts (Stands table ever) state) (sym one) (inl new, subst (λ (s : State). Stands table ever (after_payload s (define table))) (sym new) (inr (begins_standing table ever)))

table_stands : (table : AppendTable) (files ever : List LandingFile) (room : ℕ) (state : State) (at : ℕ) (acked tried : List Payload) (end : UpdateEnd) → HoldsPresent files ever → Stands table ever state → LoadedEnds (Some table) files room state at acked tried end → HoldsOfFronts (Stands table ever) state tried
table_stands table files ever room state at acked tried end held stands (inl judged) = none_tried table ever state tried stands judged.2
table_stands table files ever room state at acked tried end held stands (inr (inl defines)) = define_stands table ever state tried defines.0 (define_tries table room at acked tried end defines.1).1
table_stands table files ever room state at acked tried end held stands (inr (inr (inl first))) =
    let flow : FlowStands table ever (after_payload empty_state (define table)) (define table ∷ []) tried = flows_stand table files ever room (behind at (define table)) (after_payload empty_state (define table)) (define table ∷ []) acked tried end held (begins_standing table ever) first.2 in
    let later : HoldsOfFronts (Stands table ever) (after_payload state (define table)) flow.0 = subst (λ (s : State). HoldsOfFronts (Stands table ever) (after_payload s (define table)) flow.0) (sym first.0) flow.2 in
    subst (HoldsOfFronts (Stands table ever) state) (sym flow.1) (stands, later)
table_stands table files ever room state at acked tried end held (inl new) (inr (inr (inr next))) =
    absurd (cc (sym new ∙ next.1.holds.only))
table_stands table files ever room state at acked tried end held (inr stands) (inr (inr (inr next))) =
    let flow : FlowStands table ever state [] tried = flows_stand table files ever room at state [] acked tried end held stands next.1 in
    subst (HoldsOfFronts (Stands table ever) state) (sym flow.1) flow.2

loaded_stands : (plan : Option AppendTable) (table : AppendTable) (files ever : List LandingFile) (room : ℕ) (state : State) (at : ℕ) (acked tried : List Payload) (end : UpdateEnd) → IsFor plan table → HoldsPresent files ever → Stands table ever state → LoadedEnds plan files room state at acked tried end → HoldsOfFronts (Stands table ever) state tried
loaded_stands None table files ever room state at acked tried end is held stands ends = none_tried table ever state tried stands ends.2
loaded_stands (Some other) table files ever room state at acked tried end is held stands ends =
    table_stands table files ever room state at acked tried end held stands (subst (λ (t : AppendTable). LoadedEnds (Some t) files room state at acked tried end) is ends)

-- ---- a load that failed tells of no state

table_never_failed : (table : AppendTable) (files : List LandingFile) (room : ℕ) (state : State) (at : ℕ) (acked tried : List Payload) → LoadedEnds (Some table) files room state at acked tried LoadFailed → ⊥
table_never_failed table files room state at acked tried (inl judged) = judged.0
table_never_failed table files room state at acked tried (inr (inl defines)) = defines.1
table_never_failed table files room state at acked tried (inr (inr (inl first))) = first.2.ends.0
table_never_failed table files room state at acked tried (inr (inr (inr next))) = next.1.ends.0

never_failed : (plan : Option AppendTable) (files : List LandingFile) (room : ℕ) (state : State) (at : ℕ) (acked tried : List Payload) → LoadedEnds plan files room state at acked tried LoadFailed → ⊥
never_failed None files room state at acked tried ends = ends.0
never_failed (Some table) files room state at acked tried ends = table_never_failed table files room state at acked tried ends

-- a file that was loaded isn't longer than this
abbrev pub IsSmall : UpdateEnd → List ℕ → Type 0
IsSmall end bytes = end ≢ LoadFailed → length bytes ≤ 2 ^ 40

pub updates_stand : (plan : Option AppendTable) (table : AppendTable) (found : Found) (loaded : Bool) (acked tried : List Payload) (end : UpdateEnd) (ever : List LandingFile) (state : State) → IsFor plan table → Updates plan found loaded acked tried end → IsSmall end found.bytes → HoldsPresent found.landing ever → HasState found.bytes state → Stands table ever state → HoldsOfFronts (Stands table ever) state tried
updates_stand plan table found false acked tried end ever state asked updates small held has stands = none_tried table ever state tried stands updates.2
updates_stand plan table found true acked tried end ever state asked (other, at, is, ends) small held has stands =
    let loads : end ≢ LoadFailed = λ failed. never_failed plan found.landing found.room other at acked tried (subst (LoadedEnds plan found.landing found.room other at acked tried) failed ends) in
    let same : other ≡ state = one_state found.bytes other state (omega (arith, small loads)) is.is has in
    loaded_stands plan table found.landing ever found.room state at acked tried end asked held stands (subst (λ s. LoadedEnds plan found.landing found.room s at acked tried end) same ends)

pub fronts_stand : (plan : Option AppendTable) (table : AppendTable) (found : Found) (loaded : Bool) (acked tried : List Payload) (end : UpdateEnd) (ever : List LandingFile) (state : State) (front later : List Payload) → IsFor plan table → Updates plan found loaded acked tried end → length found.bytes ≤ 2 ^ 40 → HoldsPresent found.landing ever → HasState found.bytes state → Stands table ever state → tried ≡ front ++ later → Stands table ever (state_from state front)
fronts_stand plan table found loaded acked tried end ever state front later asked updates small held has stands is =
    of_front (Stands table ever) state tried front later is (updates_stand plan table found loaded acked tried end ever state asked updates (λ loads. small) held has stands)
