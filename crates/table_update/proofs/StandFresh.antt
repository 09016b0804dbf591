-- A completed update that reads all files that were read before comes to what a full refresh does.
use Rattle.std.proofs.Common.{◌≡◌, inl, inr, ℕ, ◌-◌, ◌^◌, ◌<◌, ◌≤◌, List, [], ◌∷◌, ◌++◌, length, Bool, true, false, cond, ◌||◌, eqb, refl, sym, ap, ◌∙◌, subst, append-nil, Option, Some, None, Ordering, Less, Equal, Greater, nat_cmp, nat_lt, arith}
use Rattle.std.specs.Ordering.{match_ordering}
use Rattle.std.specs.Cmp.Lexicographic.{slice_cmp}
use Rattle.std.proofs.lemmas.Bool.Decides.{nat_tests}
use Rattle.value_core.specs.declared.cursor.Format.{Format}
use Rattle.value_core.specs.declared.cursor.FilePlace.{FilePlace}
use Rattle.value_core.specs.Bags.{SameBag}
use Rattle.landing_core.specs.declared.landing.LandingFile.{LandingFile}
use Rattle.landing_core.specs.declared.landing.Listed.{Listed}
use Rattle.landing_core.specs.Folders.{HoldsPresent, bytes_of, has_file, is_at}
use Rattle.landing_core.specs.Fresh as fresh
use Rattle.landing_core.specs.Places.{moved, placed}
use Rattle.landing_core.proofs.PlaceLawLemmas.{same_names}
use Rattle.landing_history.specs.Readings.{AreListed, is_listed}
use Rattle.landing_history.specs.Taken.{AreEnds, IsLineEnd, taken, taken_of}
use Rattle.landing_history.proofs.LineCuts.{within}
use Rattle.landing_history.proofs.PlaceWalks.{entry}
use Rattle.landing_history.proofs.ReadingLemmas.{reach_at_ends}
use Rattle.landing_history.proofs.WholeReadings.{one_form, whole_reach}
use Rattle.commit_records.specs.declared.payload.Payload.{Payload}
use Rattle.store_state.specs.State.{Dataset, State, after_payload, empty_state, state_from}
use Rattle.store_core.specs.State.{HasState}
use Rattle.store_core.proofs.StateLemmas.{one_state}
use Rattle.table_update.specs.declared.end.UpdateEnd.{UpdateEnd}
use Rattle.table_update.specs.declared.end.UpdateEnd.TheVariants.{Current, Completed}
use Rattle.table_update.specs.declared.table.AppendTable.{AppendTable}
use Rattle.table_update.specs.Flow.{FlowEnds, HasNews, batch, behind, listing, reach, shrunk}
use Rattle.table_update.specs.Refresh.{IsFresh, NoneGone, rows_anew}
use Rattle.table_update.specs.Stands.{Stands, TableStands, content, rows_up_to}
use Rattle.table_update.specs.Table.{define, rows_of}
use Rattle.table_update.specs.Update.{DefineEnds, Flows, Found, IsSuccess, JudgeEnds, LoadEnds, LoadedEnds, Updates}
use Rattle.table_update.proofs.StandListing.{can_read_on}
use Rattle.table_update.proofs.StandSteps.{begins_standing, one_table, takes_standing, takes_to}

-- ---- places that a reading reaches keep the names of those before

module _ (whole : List Listed) where
  placed_listed_by : (file : List ℕ) (place : ℕ) (known : FilePlace) (more : List FilePlace) (order : Ordering) → slice_cmp nat_cmp file known.file ≡ order → (AreListed (placed file place more) whole → AreListed more whole) → AreListed (match_ordering order (entry file place ∷ known ∷ more) (entry file place ∷ more) (known ∷ placed file place more)) whole → AreListed (known ∷ more) whole
  placed_listed_by file place known more Less is later all = all.1
  placed_listed_by file place known more Equal is later all = (subst (λ name. is_listed name whole ≡ true) (same_names file known.file is) all.0, all.1)
  placed_listed_by file place known more Greater is later all = (all.0, later all.1)

  placed_listed : (file : List ℕ) (place : ℕ) (places : List FilePlace) → AreListed (placed file place places) whole → AreListed places whole
  placed_listed file place [] all = tt
  placed_listed file place (known ∷ more) all = placed_listed_by file place known more (slice_cmp nat_cmp file known.file) refl (placed_listed file place more) all

  moved_listed_by : (file : List ℕ) (place : ℕ) (places : List FilePlace) (test : Bool) → AreListed (cond test places (placed file place places)) whole → AreListed places whole
  moved_listed_by file place places true all = all
  moved_listed_by file place places false all = placed_listed file place places all

  reached_listed : (dir : List ℕ) (files : List LandingFile) (places so_far : List FilePlace) (entries : List Listed) → AreListed (fresh.reach_from dir files places so_far entries) whole → AreListed so_far whole
  reached_listed dir files places so_far [] all = all
  reached_listed dir files places so_far (listed ∷ more) all =
      let place = fresh.reach_of dir files places listed in
      moved_listed_by listed.file place so_far (eqb place 0) (reached_listed dir files places (moved listed.file place so_far) more all)

-- ---- up to ends of lines of what is there, it doesn't matter what else was ever there

none_by : (dir name : List ℕ) (file : LandingFile) (files : List LandingFile) (test : Bool) → (has_file dir name files ≡ false → bytes_of dir name files ≡ []) → (test || has_file dir name files) ≡ false → cond test file.bytes (bytes_of dir name files) ≡ []
none_by dir name file files true later none = absurd (cc none)
none_by dir name file files false later none = later none

none_there : (dir name : List ℕ) (files : List LandingFile) → has_file dir name files ≡ false → bytes_of dir name files ≡ []
none_there dir name [] none = refl
none_there dir name (file ∷ files) none = none_by dir name file files (is_at dir name file) (none_there dir name files) none

ended_by : (dir name : List ℕ) (files : List LandingFile) (place : ℕ) (test : Bool) → has_file dir name files ≡ test → IsLineEnd (bytes_of dir name files) place → test ≡ true
ended_by dir name files place true is ends = refl
ended_by dir name files place false is ends =
    let inside : place - 1 < length (bytes_of dir name files) = within (bytes_of dir name files) (place - 1) ends.1 in
    absurd (omega (arith, inside, ap length (none_there dir name files is)))

-- what is there of a file in which a line has ended is all that was ever there of it
same_bytes : (dir name : List ℕ) (files ever : List LandingFile) (place : ℕ) → HoldsPresent files ever → IsLineEnd (bytes_of dir name files) place → bytes_of dir name ever ≡ bytes_of dir name files
same_bytes dir name files ever place held ends = (held dir name (ended_by dir name files place (has_file dir name files) refl ends)).1

same_taken : (format : Format) (header : Bool) (dir : List ℕ) (files ever : List LandingFile) (places : List FilePlace) → HoldsPresent files ever → AreEnds dir files places → taken format header dir ever places ≡ taken format header dir files places
same_taken format header dir files ever [] held ends = refl
same_taken format header dir files ever (known ∷ more) held ends =
    let here = ap (λ bytes. taken_of format header bytes known.place) (same_bytes dir known.file files ever known.place held ends.0) in
    let later = same_taken format header dir files ever more held ends.1 in
    λ i. here i ++ later i

-- ---- a table that has read all that is there

-- a first reading finds no file shorter than how far it was read
unshrunk_at_first : (table : AppendTable) (files : List LandingFile) → shrunk table files [] ≡ None
unshrunk_at_first table files = none_shorter (listing table files)
  where
    none_below : (size : ℕ) (listed : Listed) (rest : Option Listed) (test : Bool) → nat_lt size 0 ≡ test → rest ≡ None → cond test (Some listed) rest ≡ None
    none_below size listed rest true is none = absurd (let never : ⊥ = grind (arith, nat_tests) in never)
    none_below size listed rest false is none = none

    none_shorter : (entries : List Listed) → fresh.shrunk [] entries ≡ None
    none_shorter [] = refl
    none_shorter (listed ∷ more) = none_below listed.size listed (fresh.shrunk [] more) (nat_lt listed.size 0) refl (none_shorter more)

-- the rows that a first reading takes are the same whatever else was ever there
rows_at_first : (table : AppendTable) (files ever : List LandingFile) → HoldsPresent files ever → rows_up_to table ever (reach table files []) ≡ rows_anew table files
rows_at_first table files ever held =
    let itself : HoldsPresent files files = λ dir name has. (has, refl) in
    let can = can_read_on table files files [] itself (unshrunk_at_first table files) in
    let ends : AreEnds table.folder files (reach table files []) = reach_at_ends table.folder files files [] (listing table files) can tt in
    ap (rows_of table) (same_taken table.shape.format table.shape.header table.folder files ever (reach table files []) held ends)

-- it stands, and is fresh where none that it has read is gone
abbrev pub IsRefreshed : AppendTable → List LandingFile → List LandingFile → State → Type 0
IsRefreshed table files ever state = (stands : TableStands table ever state) × (NoneGone files stands → IsFresh files stands)

-- where each file that has been read is listed, a reading comes to what a first one does
anew : (table : AppendTable) (files ever : List LandingFile) (state : State) → HoldsPresent files ever → (stands : TableStands table ever state) → shrunk table files stands.places ≡ None → AreListed stands.places (listing table files) → reach table files stands.places ≡ reach table files []
anew table files ever state held stands none listed =
    whole_reach table.folder files ever stands.places (listing table files) (can_read_on table files ever stands.places held none) (((one_form stands.places).0 stands.holds.form).0) stands.ends listed

-- rows up to where a first reading comes are those of a full refresh
fresh_at : (table : AppendTable) (files ever : List LandingFile) (state : State) (stands : TableStands table ever state) → HoldsPresent files ever → stands.places ≡ reach table files [] → IsFresh files stands
fresh_at table files ever state stands held to =
    subst (SameBag (content stands.dataset)) (ap (rows_up_to table ever) to ∙ rows_at_first table files ever held) stands.content_is

-- nothing was new
current : (table : AppendTable) (files ever : List LandingFile) (state : State) → HoldsPresent files ever → (stands : TableStands table ever state) → shrunk table files stands.places ≡ None → reach table files stands.places ≡ stands.places → IsRefreshed table files ever state
current table files ever state held stands none still =
    (stands, λ listed. fresh_at table files ever state stands held (sym still ∙ anew table files ever state held stands none listed))

-- what was new was taken
taken_fresh : (table : AppendTable) (files ever : List LandingFile) (state : State) (held : HoldsPresent files ever) (stands : TableStands table ever state) (news : HasNews table files stands.places) → NoneGone files (takes_standing table files ever state held stands news) → IsFresh files (takes_standing table files ever state held stands news)
taken_fresh table files ever state held stands news gone =
    let later = takes_standing table files ever state held stands news in
    let to : later.places ≡ reach table files stands.places = takes_to table files ever state held stands news in
    let reached : AreListed (reach table files stands.places) (listing table files) = subst (λ places. AreListed places (listing table files)) to gone in
    let listed : AreListed stands.places (listing table files) = reached_listed (listing table files) table.folder files stands.places stands.places (listing table files) reached in
    fresh_at table files ever (after_payload state (batch table files stands.places)) later held (to ∙ anew table files ever state held stands news.none_shrank listed)

completed : (table : AppendTable) (files ever : List LandingFile) (state : State) → HoldsPresent files ever → (stands : TableStands table ever state) → HasNews table files stands.places → IsRefreshed table files ever (after_payload state (batch table files stands.places))
completed table files ever state held stands news = (takes_standing table files ever state held stands news, taken_fresh table files ever state held stands news)

-- ---- how an update succeeds

-- the payloads behind those that were tried before, and the table with them
abbrev FlowRefreshes : AppendTable → List LandingFile → List LandingFile → State → List Payload → List Payload → Type 0
FlowRefreshes table files ever state before tried = (more : List Payload) × (tried ≡ before ++ more) × IsRefreshed table files ever (state_from state more)

flow_refreshes : (table : AppendTable) (files ever : List LandingFile) (room at : ℕ) (state : State) (dataset : Dataset) (before acked tried : List Payload) (end : UpdateEnd) → IsSuccess end → HoldsPresent files ever → (stands : TableStands table ever state) → FlowEnds table files room at dataset stands.places before acked tried end → FlowRefreshes table files ever state before tried
flow_refreshes table files ever room at state dataset before acked tried Current success held stands ends =
    ([], ends.2 ∙ sym (append-nil before), current table files ever state held stands ends.0.0 ends.0.1)
flow_refreshes table files ever room at state dataset before acked tried (Completed read version) success held stands ends =
    (batch table files stands.places ∷ [], ends.3, completed table files ever state held stands ends.0.news)
flow_refreshes table files ever room at state dataset before acked tried end success held stands ends = absurd success

flows_refresh : (table : AppendTable) (files ever : List LandingFile) (room at : ℕ) (state : State) (before acked tried : List Payload) (end : UpdateEnd) → IsSuccess end → HoldsPresent files ever → TableStands table ever state → Flows table files room at state before acked tried end → FlowRefreshes table files ever state before tried
flows_refresh table files ever room at state before acked tried end success held stands flows =
    let same : flows.places ≡ stands.places = one_table table state flows.dataset stands.dataset flows.places stands.places flows.holds stands.holds in
    flow_refreshes table files ever room at state flows.dataset before acked tried end success held stands (subst (λ places. FlowEnds table files room at flows.dataset places before acked tried end) same flows.ends)

-- an update that doesn't reach the flow doesn't succeed
judge_fails : (table : AppendTable) (state : State) (end : UpdateEnd) → IsSuccess end → JudgeEnds table state end → ⊥
judge_fails table state Current success ends = ends
judge_fails table state (Completed read version) success ends = ends
judge_fails table state end success ends = absurd success

define_fails : (table : AppendTable) (room at : ℕ) (acked tried : List Payload) (end : UpdateEnd) → IsSuccess end → DefineEnds table room at acked tried end → ⊥
define_fails table room at acked tried Current success ends = ends
define_fails table room at acked tried (Completed read version) success ends = ends
define_fails table room at acked tried end success ends = absurd success

load_fails : (found : Found) (end : UpdateEnd) → IsSuccess end → LoadEnds found end → ⊥
load_fails found Current success ends = ends
load_fails found (Completed read version) success ends = ends
load_fails found end success ends = absurd success

loaded_refreshes : (table : AppendTable) (files ever : List LandingFile) (room : ℕ) (state : State) (at : ℕ) (acked tried : List Payload) (end : UpdateEnd) → IsSuccess end → HoldsPresent files ever → Stands table ever state → LoadedEnds (Some table) files room state at acked tried end → IsRefreshed table files ever (state_from state tried)
loaded_refreshes table files ever room state at acked tried end success held stands (inl judged) = absurd (judge_fails table state end success judged.0)
loaded_refreshes table files ever room state at acked tried end success held stands (inr (inl defines)) = absurd (define_fails table room at acked tried end success defines.1)
loaded_refreshes table files ever room state at acked tried end success held stands (inr (inr (inl first))) =
    let flow : FlowRefreshes table files ever (after_payload empty_state (define table)) (define table ∷ []) tried = flows_refresh table files ever room (behind at (define table)) (after_payload empty_state (define table)) (define table ∷ []) acked tried end success held (begins_standing table ever) first.2 in
    let later : IsRefreshed table files ever (state_from state (define table ∷ flow.0)) = subst (λ (s : State). IsRefreshed table files ever (state_from s (define table ∷ flow.0))) (sym first.0) flow.2 in
    subst (λ (payloads : List Payload). IsRefreshed table files ever (state_from state payloads)) (sym flow.1) later
loaded_refreshes table files ever room state at acked tried end success held (inl new) (inr (inr (inr next))) = absurd (cc (sym new ∙ next.1.holds.only))
loaded_refreshes table files ever room state at acked tried end success held (inr stands) (inr (inr (inr next))) =
    let flow : FlowRefreshes table files ever state [] tried = flows_refresh table files ever room at state [] acked tried end success held stands next.1 in
    subst (λ (payloads : List Payload). IsRefreshed table files ever (state_from state payloads)) (sym flow.1) flow.2

pub update_refreshes : (table : AppendTable) (found : Found) (loaded : Bool) (acked tried : List Payload) (end : UpdateEnd) (ever : List LandingFile) (state : State) → Updates (Some table) found loaded acked tried end → length found.bytes ≤ 2 ^ 40 → IsSuccess end → HoldsPresent found.landing ever → HasState found.bytes state → Stands table ever state → IsRefreshed table found.landing ever (state_from state tried)
update_refreshes table found false acked tried end ever state updates small success held has stands = absurd (load_fails found end success updates.0)
update_refreshes table found true acked tried end ever state (other, at, is, ends) small success held has stands =
    let same : other ≡ state = one_state found.bytes other state (omega (arith, small)) is.is has in
    loaded_refreshes table found.landing ever found.room state at acked tried end success held stands (subst (λ s. LoadedEnds (Some table) found.landing found.room s at acked tried end) same ends)
