-- An update that nothing outside stops has one end.
use Rattle.std.specs.Prelude.{find, not, ◌&&◌, bytes_eq}
use Rattle.std.proofs.Common.{◌≡◌, inl, inr, ℕ, ◌+◌, ◌^◌, ◌<◌, ◌≤◌, List, [], ◌∷◌, ◌++◌, length, refl, sym, ap, subst, ◌∙◌, Bool, true, false, Option, Some, None, arith}
use Rattle.std.proofs.lemmas.Slice.Eq.{bytes_eq-Decides}
use Rattle.value_core.specs.declared.cursor.FilePlace.{FilePlace}
use Rattle.value_core.specs.NameFold.{folded, same_name}
use Rattle.landing_core.specs.declared.landing.LandingFile.{LandingFile}
use Rattle.landing_core.specs.declared.landing.Listed.{Listed}
use Rattle.landing_core.specs.Places.{place_of}
use Rattle.commit_records.specs.declared.definition.Definition.{Definition}
use Rattle.commit_records.specs.declared.payload.Payload.{Payload}
use Rattle.store_state.specs.State.{Dataset, State, empty_state, after_payload, version_of, definitions_of}
use Rattle.store_core.specs.Reach.{EndsAt}
use Rattle.store_core.specs.State.{HasState, IsBegun, IsForeign, IsRefusedAt}
use Rattle.table_update.specs.declared.end.UpdateEnd.{UpdateEnd}
use Rattle.table_update.specs.declared.end.UpdateEnd.TheVariants.{LoadFailed, Foreign, Damaged, Removed, Changed, Unfit, Full, VersionFull, CommitFailed, LandingFailed, Shrunk, Current, Completed, Memory}
use Rattle.table_update.specs.declared.table.AppendTable.{AppendTable}
use Rattle.table_update.specs.Ends.{Alike, IsOwn}
use Rattle.table_update.specs.Flow.{batch, behind, lines, reach, shrunk, HasNews, HasVersion, MayTake, FlowEnds}
use Rattle.table_update.specs.Table.{define, definition_of, HoldsTable, IsDefinedBy}
use Rattle.table_update.specs.Update.{Found, Loaded, LoadEnds, is_kept, first_other_in, first_other, MayRun, JudgeEnds, NoTableEnds, DefineEnds, Flows, Runs, LoadedEnds, Updates}

-- a file has one state, ends at one place, and is refused for one cause
pub record HasOneState : Type 0 where
  pub one : (bytes : List ℕ) (a b : State) → length bytes < 2 ^ 64 → HasState bytes a → HasState bytes b → a ≡ b
  pub not_foreign : (len : ℕ) (bytes : List ℕ) (state : State) → HasState bytes state → IsForeign len bytes → ⊥
  pub not_refused : (at : ℕ) (bytes : List ℕ) (state : State) → length bytes < 2 ^ 64 → HasState bytes state → IsRefusedAt at bytes → ⊥
  pub one_place : (at place : ℕ) (bytes : List ℕ) → length bytes < 2 ^ 64 → IsRefusedAt at bytes → IsRefusedAt place bytes → at ≡ place
  pub one_cause : (at len : ℕ) (bytes : List ℕ) → IsRefusedAt at bytes → IsForeign len bytes → ⊥
  pub one_end : (bytes : List ℕ) (a b : ℕ) → length bytes < 2 ^ 64 → EndsAt a bytes → EndsAt b bytes → a ≡ b

pub small_enough : (n : ℕ) → n ≤ 2 ^ 40 → n < 2 ^ 64
small_enough n small = omega (arith, small)

-- what is too long has no room
no_room : (room end whole : ℕ) → room < end → end ≡ whole → whole ≤ room → ⊥
no_room room end whole over is fits = omega (arith, over, is, fits)

pub apart : (n bound : ℕ) → n < bound → bound ≤ n → ⊥
apart n bound below above = omega (arith, below, above)

abbrev SameEnd : UpdateEnd → UpdateEnd → List Payload → List Payload → Type 0
SameEnd end other tried also = (end ≡ other) × (tried ≡ also)

-- ---- a load that is refused

data Refusal : Type 0 where
  NotOurs : ℕ → Refusal
  IsDamaged : ℕ → Refusal
  NoRoom : Refusal

abbrev IsOfRefusal : Found → Refusal → UpdateEnd → Type 0
IsOfRefusal found (NotOurs len) end = IsForeign len found.bytes × (end ≡ Foreign len)
IsOfRefusal found (IsDamaged at) end = IsRefusedAt at found.bytes × (end ≡ Damaged at)
IsOfRefusal found NoRoom end = IsBegun found.bytes × (found.room < 18) × (end ≡ Full 18 found.room)

refusal_of : (found : Found) (end : UpdateEnd) → IsOwn end → LoadEnds found end → (refusal : Refusal) × IsOfRefusal found refusal end
refusal_of found LoadFailed own ends = absurd own
refusal_of found Memory own ends = absurd own
refusal_of found (Foreign len) own ends = (NotOurs len, (ends, refl))
refusal_of found (Damaged at) own ends = (IsDamaged at, (ends, refl))
refusal_of found (Full end limit) own ends = (NoRoom, (ends.0, ends.1, λ i. Full (ends.2 i) (ends.3 i)))
refusal_of found end own ends = absurd ends

begun_has_state : (bytes : List ℕ) → IsBegun bytes → HasState bytes empty_state
begun_has_state bytes begun = inr (begun, refl)

one_refusal : HasOneState → (found : Found) (a b : Refusal) (end other : UpdateEnd) → length found.bytes < 2 ^ 64 → IsOfRefusal found a end → IsOfRefusal found b other → end ≡ other
one_refusal law found (NotOurs len) (NotOurs more) end other small p q = p.1 ∙ ap Foreign (p.0.2 ∙ sym q.0.2) ∙ sym q.1
one_refusal law found (NotOurs len) (IsDamaged at) end other small p q = absurd (law.one_cause at len found.bytes q.0 p.0)
one_refusal law found (NotOurs len) NoRoom end other small p q = absurd (law.not_foreign len found.bytes empty_state (begun_has_state found.bytes q.0) p.0)
one_refusal law found (IsDamaged at) (NotOurs len) end other small p q = absurd (law.one_cause at len found.bytes p.0 q.0)
one_refusal law found (IsDamaged at) (IsDamaged place) end other small p q = p.1 ∙ ap Damaged (law.one_place at place found.bytes small p.0 q.0) ∙ sym q.1
one_refusal law found (IsDamaged at) NoRoom end other small p q = absurd (law.not_refused at found.bytes empty_state small (begun_has_state found.bytes q.0) p.0)
one_refusal law found NoRoom (NotOurs len) end other small p q = absurd (law.not_foreign len found.bytes empty_state (begun_has_state found.bytes p.0) q.0)
one_refusal law found NoRoom (IsDamaged at) end other small p q = absurd (law.not_refused at found.bytes empty_state small (begun_has_state found.bytes p.0) q.0)
one_refusal law found NoRoom NoRoom end other small p q = p.2 ∙ sym q.2

-- of a file that has a state it is only the room that is refused
abbrev LacksRoom : Found → UpdateEnd → Type 0
LacksRoom found end = IsBegun found.bytes × (found.room < 18) × (end ≡ Full 18 found.room)

lacks_room_by : HasOneState → (found : Found) (state : State) (refusal : Refusal) (end : UpdateEnd) → length found.bytes < 2 ^ 64 → HasState found.bytes state → IsOfRefusal found refusal end → LacksRoom found end
lacks_room_by law found state (NotOurs len) end small has p = absurd (law.not_foreign len found.bytes state has p.0)
lacks_room_by law found state (IsDamaged at) end small has p = absurd (law.not_refused at found.bytes state small has p.0)
lacks_room_by law found state NoRoom end small has p = p

lacks_room : HasOneState → (found : Found) (state : State) (end : UpdateEnd) → length found.bytes < 2 ^ 64 → HasState found.bytes state → IsOwn end → LoadEnds found end → LacksRoom found end
lacks_room law found state end small has own ends =
    let refusal = refusal_of found end own ends in
    lacks_room_by law found state refusal.0 end small has refusal.1

-- what is loaded had room
not_lacking : (found also : Found) (state : State) (at : ℕ) (end : UpdateEnd) → (IsBegun found.bytes → IsBegun also.bytes) → also.room ≡ found.room → Loaded also state at → LacksRoom found end → ⊥
not_lacking found also state at end begun same loaded lacks = apart found.room 18 lacks.1 (subst (λ (n : ℕ). 18 ≤ n) same (loaded.room (begun lacks.0)))

pub not_both_loaded : HasOneState → (found : Found) (state : State) (at : ℕ) (end : UpdateEnd) → length found.bytes < 2 ^ 64 → Loaded found state at → IsOwn end → LoadEnds found end → ⊥
not_both_loaded law found state at end small loaded own ends =
    not_lacking found found state at end (λ b. b) refl loaded (lacks_room law found state end small loaded.is own ends)

-- ---- the stored definitions

find_none : (test : Definition → Bool) (d : Definition) → test d ≡ false → find test (d ∷ []) ≡ None
find_none test d fails = rw fails refl

both_hold : (a b : Bool) → a ≡ true → b ≡ true → not (a && b) ≡ false
both_hold a b p q = rw (p, q) refl

kept_by_itself : (table : AppendTable) → not (is_kept table (definition_of table)) ≡ false
kept_by_itself table =
    both_hold (same_name table.name table.name) (bytes_eq table.text table.text) ((bytes_eq-Decides (folded table.name) (folded table.name)).1 refl) ((bytes_eq-Decides table.text table.text).1 refl)

none_is_other : (table : AppendTable) (state : State) → MayRun table state → first_other table state ≡ None
none_is_other table state (inl none) = ap (first_other table) none
none_is_other table state (inr defined) =
    ap (first_other_in table) defined ∙ find_none (λ stored. not (is_kept table stored)) (definition_of table) (kept_by_itself table)

pub data Judged : Type 0 where
  OtherName : Definition → Judged
  OtherText : Definition → Judged
  OtherParts : Judged

abbrev pub IsOfJudged : AppendTable → State → Judged → UpdateEnd → Type 0
IsOfJudged table state (OtherName other) end = (first_other table state ≡ Some other) × (same_name other.name table.name ≡ false) × (end ≡ Removed other.name)
IsOfJudged table state (OtherText other) end = (first_other table state ≡ Some other) × (same_name other.name table.name ≡ true) × (end ≡ Changed other.name other.text table.text)
IsOfJudged table state OtherParts end = (first_other table state ≡ None) × (MayRun table state → ⊥) × (end ≡ Unfit table.name)

pub judged_of : (table : AppendTable) (state : State) (end : UpdateEnd) → IsOwn end → JudgeEnds table state end → (judged : Judged) × IsOfJudged table state judged end
judged_of table state Memory own ends = absurd own
judged_of table state (Removed name) own (other, is, refused) = (OtherName other, (is, refused.0, ap Removed refused.1))
judged_of table state (Changed name stored given) own (other, is, refused) =
    (OtherText other, (is, refused.0, λ i. Changed (refused.1 i) (refused.2 i) (refused.3 i)))
judged_of table state (Unfit name) own ends = (OtherParts, (ends.none, ends.unfit, ap Unfit ends.name_is))
judged_of table state end own ends = absurd ends

some_none : (found : Option Definition) (a : Definition) → found ≡ Some a → found ≡ None → ⊥
some_none found a p q = cc

true_false : (b : Bool) → b ≡ true → b ≡ false → ⊥
true_false b p q = cc

pub not_judged : (table : AppendTable) (state : State) (judged : Judged) (end : UpdateEnd) → MayRun table state → IsOfJudged table state judged end → ⊥
not_judged table state (OtherName other) end may p = some_none (first_other table state) other p.0 (none_is_other table state may)
not_judged table state (OtherText other) end may p = some_none (first_other table state) other p.0 (none_is_other table state may)
not_judged table state OtherParts end may p = p.1 may

same_other : (found : Option Definition) (a b : Definition) → found ≡ Some a → found ≡ Some b → a ≡ b
same_other found a b p q = cc

clash : (a b : Definition) (name : List ℕ) → a ≡ b → same_name a.name name ≡ false → same_name b.name name ≡ true → ⊥
clash a b name same one two = true_false (same_name a.name name) (subst (λ (d : Definition). same_name d.name name ≡ true) (sym same) two) one

one_judged : (table : AppendTable) (state : State) (a b : Judged) (end other : UpdateEnd) → IsOfJudged table state a end → IsOfJudged table state b other → end ≡ other
one_judged table state (OtherName a) (OtherName b) end other p q = p.2 ∙ ap (λ (d : Definition). Removed d.name) (same_other (first_other table state) a b p.0 q.0) ∙ sym q.2
one_judged table state (OtherName a) (OtherText b) end other p q = absurd (clash a b table.name (same_other (first_other table state) a b p.0 q.0) p.1 q.1)
one_judged table state (OtherName a) OtherParts end other p q = absurd (some_none (first_other table state) a p.0 q.0)
one_judged table state (OtherText a) (OtherName b) end other p q = absurd (clash b a table.name (same_other (first_other table state) b a q.0 p.0) q.1 p.1)
one_judged table state (OtherText a) (OtherText b) end other p q =
    p.2 ∙ ap (λ (d : Definition). Changed d.name d.text table.text) (same_other (first_other table state) a b p.0 q.0) ∙ sym q.2
one_judged table state (OtherText a) OtherParts end other p q = absurd (some_none (first_other table state) a p.0 q.0)
one_judged table state OtherParts (OtherName b) end other p q = absurd (some_none (first_other table state) b q.0 p.0)
one_judged table state OtherParts (OtherText b) end other p q = absurd (some_none (first_other table state) b q.0 p.0)
one_judged table state OtherParts OtherParts end other p q = p.2 ∙ sym q.2

-- ---- the flow

pub data FlowForm : Type 0 where
  HasShrunk : Listed → FlowForm
  HasNone : FlowForm
  LacksVersion : FlowForm
  IsTooLong : FlowForm
  Takes : FlowForm

abbrev pub IsOfFlow : AppendTable → List LandingFile → ℕ → ℕ → Dataset → List FilePlace → List Payload → FlowForm → List Payload → UpdateEnd → Type 0
IsOfFlow table files room at dataset places before (HasShrunk listed) tried end =
    (shrunk table files places ≡ Some listed) × (end ≡ Shrunk listed.file (place_of places listed.file) listed.size) × (tried ≡ before)
IsOfFlow table files room at dataset places before HasNone tried end = (shrunk table files places ≡ None) × (reach table files places ≡ places) × (end ≡ Current) × (tried ≡ before)
IsOfFlow table files room at dataset places before LacksVersion tried end = HasNews table files places × (2 ^ 62 ≤ version_of dataset) × (end ≡ VersionFull table.name) × (tried ≡ before)
IsOfFlow table files room at dataset places before IsTooLong tried end =
    HasNews table files places × HasVersion dataset × (room < behind at (batch table files places) + 1) × (end ≡ Full (behind at (batch table files places) + 1) room) × (tried ≡ before)
IsOfFlow table files room at dataset places before Takes tried end =
    MayTake table files room at dataset places × (end ≡ Completed (length (lines table files places)) (version_of dataset + 1)) × (tried ≡ before ++ batch table files places ∷ [])

pub flow_of_end : (table : AppendTable) (files : List LandingFile) (room at : ℕ) (dataset : Dataset) (places : List FilePlace) (before acked tried : List Payload) (end : UpdateEnd) → IsOwn end → FlowEnds table files room at dataset places before acked tried end
    → (form : FlowForm) × IsOfFlow table files room at dataset places before form tried end
flow_of_end table files room at dataset places before acked tried (Completed read version) own (may, counts, all, tries) = (Takes, (may, (λ i. Completed (counts.0 i) (counts.1 i)), tries))
flow_of_end table files room at dataset places before acked tried (Shrunk file cursor size) own (stops, none, tries) =
    (HasShrunk (record { file = file; size = size }), (stops.0, ap (λ (n : ℕ). Shrunk file n size) stops.1, tries))
flow_of_end table files room at dataset places before acked tried Current own (stops, none, tries) = (HasNone, (stops.0, stops.1, refl, tries))
flow_of_end table files room at dataset places before acked tried (VersionFull name) own (stops, none, tries) = (LacksVersion, (stops.0, stops.2, ap VersionFull stops.1, tries))
flow_of_end table files room at dataset places before acked tried (Full end limit) own ((news, version, full), none, tries) =
    (IsTooLong, (news, version, subst (λ (n : ℕ). room < n) full.1 full.0, (λ i. Full (full.1 i) (full.2 i)), tries))
flow_of_end table files room at dataset places before acked tried LoadFailed own ends = absurd own
flow_of_end table files room at dataset places before acked tried CommitFailed own ends = absurd own
flow_of_end table files room at dataset places before acked tried LandingFailed own ends = absurd own
flow_of_end table files room at dataset places before acked tried Memory own ends = absurd own
flow_of_end table files room at dataset places before acked tried end own ends = absurd ends.0

one_listed : (found : Option Listed) (a b : Listed) → found ≡ Some a → found ≡ Some b → a ≡ b
one_listed found a b p q = cc

pub listed_none : (found : Option Listed) (a : Listed) → found ≡ Some a → found ≡ None → ⊥
listed_none found a p q = cc

one_flow : (table : AppendTable) (files : List LandingFile) (room at : ℕ) (dataset : Dataset) (places : List FilePlace) (before tried also : List Payload) (a b : FlowForm) (end other : UpdateEnd)
    → IsOfFlow table files room at dataset places before a tried end → IsOfFlow table files room at dataset places before b also other → SameEnd end other tried also
one_flow table files room at dataset places before tried also (HasShrunk l) (HasShrunk m) end other p q =
    let same : l ≡ m = one_listed (shrunk table files places) l m p.0 q.0 in
    (p.1 ∙ ap (λ (x : Listed). Shrunk x.file (place_of places x.file) x.size) same ∙ sym q.1, p.2 ∙ sym q.2)
one_flow table files room at dataset places before tried also (HasShrunk l) HasNone end other p q = absurd (listed_none (shrunk table files places) l p.0 q.0)
one_flow table files room at dataset places before tried also (HasShrunk l) LacksVersion end other p q = absurd (listed_none (shrunk table files places) l p.0 q.0.none_shrank)
one_flow table files room at dataset places before tried also (HasShrunk l) IsTooLong end other p q = absurd (listed_none (shrunk table files places) l p.0 q.0.none_shrank)
one_flow table files room at dataset places before tried also (HasShrunk l) Takes end other p q = absurd (listed_none (shrunk table files places) l p.0 q.0.news.none_shrank)
one_flow table files room at dataset places before tried also HasNone (HasShrunk m) end other p q = absurd (listed_none (shrunk table files places) m q.0 p.0)
one_flow table files room at dataset places before tried also HasNone HasNone end other p q = (p.2 ∙ sym q.2, p.3 ∙ sym q.3)
one_flow table files room at dataset places before tried also HasNone LacksVersion end other p q = absurd (q.0.moves p.1)
one_flow table files room at dataset places before tried also HasNone IsTooLong end other p q = absurd (q.0.moves p.1)
one_flow table files room at dataset places before tried also HasNone Takes end other p q = absurd (q.0.news.moves p.1)
one_flow table files room at dataset places before tried also LacksVersion (HasShrunk m) end other p q = absurd (listed_none (shrunk table files places) m q.0 p.0.none_shrank)
one_flow table files room at dataset places before tried also LacksVersion HasNone end other p q = absurd (p.0.moves q.1)
one_flow table files room at dataset places before tried also LacksVersion LacksVersion end other p q = (p.2 ∙ sym q.2, p.3 ∙ sym q.3)
one_flow table files room at dataset places before tried also LacksVersion IsTooLong end other p q = absurd (apart (version_of dataset) (2 ^ 62) q.1 p.1)
one_flow table files room at dataset places before tried also LacksVersion Takes end other p q = absurd (apart (version_of dataset) (2 ^ 62) q.0.version p.1)
one_flow table files room at dataset places before tried also IsTooLong (HasShrunk m) end other p q = absurd (listed_none (shrunk table files places) m q.0 p.0.none_shrank)
one_flow table files room at dataset places before tried also IsTooLong HasNone end other p q = absurd (p.0.moves q.1)
one_flow table files room at dataset places before tried also IsTooLong LacksVersion end other p q = absurd (apart (version_of dataset) (2 ^ 62) p.1 q.1)
one_flow table files room at dataset places before tried also IsTooLong IsTooLong end other p q = (p.3 ∙ sym q.3, p.4 ∙ sym q.4)
one_flow table files room at dataset places before tried also IsTooLong Takes end other p q = absurd (apart room (behind at (batch table files places) + 1) p.2 q.0.room_for)
one_flow table files room at dataset places before tried also Takes (HasShrunk m) end other p q = absurd (listed_none (shrunk table files places) m q.0 p.0.news.none_shrank)
one_flow table files room at dataset places before tried also Takes HasNone end other p q = absurd (p.0.news.moves q.1)
one_flow table files room at dataset places before tried also Takes LacksVersion end other p q = absurd (apart (version_of dataset) (2 ^ 62) p.0.version q.1)
one_flow table files room at dataset places before tried also Takes IsTooLong end other p q = absurd (apart room (behind at (batch table files places) + 1) q.2 p.0.room_for)
one_flow table files room at dataset places before tried also Takes Takes end other p q = (p.1 ∙ sym q.1, p.2 ∙ sym q.2)

-- ---- the table in a state is one

pub one_dataset : (table : AppendTable) (state : State) (a b : Dataset) (places others : List FilePlace) → HoldsTable table state a places → HoldsTable table state b others → b ≡ a
one_dataset table state a b places others p q = let one = p.only in let two = q.only in cc

pub one_reading : (table : AppendTable) (state : State) (a b : Dataset) (places others : List FilePlace) → b ≡ a → HoldsTable table state a places → HoldsTable table state b others → others ≡ places
one_reading table state a b places others same p q = let one = p.read in let two = q.read in cc

pub flow_there : (table : AppendTable) (files : List LandingFile) (room at : ℕ) (a b : Dataset) (places others : List FilePlace) (before acked tried : List Payload) (end : UpdateEnd) → b ≡ a → others ≡ places
    → FlowEnds table files room at b others before acked tried end → FlowEnds table files room at a places before acked tried end
flow_there table files room at a b places others before acked tried end same read ends =
    subst (λ (p : List FilePlace). FlowEnds table files room at a p before acked tried end) read (subst (λ (d : Dataset). FlowEnds table files room at d others before acked tried end) same ends)

one_flow_end : (table : AppendTable) (files : List LandingFile) (room at : ℕ) (state : State) (before acked tried also_acked also_tried : List Payload) (end other : UpdateEnd) → IsOwn end → IsOwn other
    → Flows table files room at state before acked tried end → Flows table files room at state before also_acked also_tried other → SameEnd end other tried also_tried
one_flow_end table files room at state before acked tried also_acked also_tried end other own too p q =
    let same : q.dataset ≡ p.dataset = one_dataset table state p.dataset q.dataset p.places q.places p.holds q.holds in
    let read : q.places ≡ p.places = one_reading table state p.dataset q.dataset p.places q.places same p.holds q.holds in
    let one = flow_of_end table files room at p.dataset p.places before acked tried end own p.ends in
    let two = flow_of_end table files room at p.dataset p.places before also_acked also_tried other too
    (flow_there table files room at p.dataset q.dataset p.places q.places before also_acked also_tried other same read q.ends) in
    one_flow table files room at p.dataset p.places before tried also_tried one.0 two.0 end other one.1 two.1

-- ---- from a loaded store

abbrev pub LacksRoomToDefine : AppendTable → ℕ → ℕ → List Payload → UpdateEnd → Type 0
LacksRoomToDefine table room at tried end = (room < behind at (define table) + 1) × (end ≡ Full (behind at (define table) + 1) room) × (tried ≡ [])

pub define_ends : (table : AppendTable) (room at : ℕ) (acked tried : List Payload) (end : UpdateEnd) → IsOwn end → DefineEnds table room at acked tried end → LacksRoomToDefine table room at tried end
define_ends table room at acked tried (Full end limit) own (full, none, tries) = (subst (λ (n : ℕ). room < n) full.1 full.0, (λ i. Full (full.1 i) (full.2 i)), tries)
define_ends table room at acked tried CommitFailed own ends = absurd own
define_ends table room at acked tried Memory own ends = absurd own
define_ends table room at acked tried end own ends = absurd ends

pub nothing_defined : (table : AppendTable) (state : State) → state ≡ [] → IsDefinedBy table state → ⊥
nothing_defined table state none defined = let both : definition_of table ∷ [] ≡ [] = sym defined ∙ ap definitions_of none in cc

runs_may : (table : AppendTable) (files : List LandingFile) (room at : ℕ) (state : State) (acked tried : List Payload) (end : UpdateEnd) → Runs table files room at state acked tried end → MayRun table state
runs_may table files room at state acked tried end (inl ends) = inl ends.0
runs_may table files room at state acked tried end (inr (inl ends)) = inl ends.0
runs_may table files room at state acked tried end (inr (inr ends)) = inr ends.0

one_run : (table : AppendTable) (files : List LandingFile) (room at : ℕ) (state : State) (acked tried also_acked also_tried : List Payload) (end other : UpdateEnd) → IsOwn end → IsOwn other
    → Runs table files room at state acked tried end → Runs table files room at state also_acked also_tried other → SameEnd end other tried also_tried
one_run table files room at state acked tried also_acked also_tried end other own too (inl p) (inl q) =
    let one = define_ends table room at acked tried end own p.1 in
    let two = define_ends table room at also_acked also_tried other too q.1 in
    (one.1 ∙ sym two.1, one.2 ∙ sym two.2)
one_run table files room at state acked tried also_acked also_tried end other own too (inl p) (inr (inl q)) =
    absurd (apart room (behind at (define table) + 1) (define_ends table room at acked tried end own p.1).0 q.1)
one_run table files room at state acked tried also_acked also_tried end other own too (inl p) (inr (inr q)) = absurd (nothing_defined table state p.0 q.0)
one_run table files room at state acked tried also_acked also_tried end other own too (inr (inl p)) (inl q) =
    absurd (apart room (behind at (define table) + 1) (define_ends table room at also_acked also_tried other too q.1).0 p.1)
one_run table files room at state acked tried also_acked also_tried end other own too (inr (inl p)) (inr (inl q)) =
    one_flow_end table files room (behind at (define table)) (after_payload empty_state (define table)) (define table ∷ []) acked tried also_acked also_tried end other own too p.2 q.2
one_run table files room at state acked tried also_acked also_tried end other own too (inr (inl p)) (inr (inr q)) = absurd (nothing_defined table state p.0 q.0)
one_run table files room at state acked tried also_acked also_tried end other own too (inr (inr p)) (inl q) = absurd (nothing_defined table state q.0 p.0)
one_run table files room at state acked tried also_acked also_tried end other own too (inr (inr p)) (inr (inl q)) = absurd (nothing_defined table state q.0 p.0)
one_run table files room at state acked tried also_acked also_tried end other own too (inr (inr p)) (inr (inr q)) =
    one_flow_end table files room at state [] acked tried also_acked also_tried end other own too p.1 q.1

judged_runs : (table : AppendTable) (files : List LandingFile) (room at : ℕ) (state : State) (acked tried : List Payload) (end other : UpdateEnd) → IsOwn end → JudgeEnds table state end
    → Runs table files room at state acked tried other → ⊥
judged_runs table files room at state acked tried end other own ends runs =
    let judged = judged_of table state end own ends in
    not_judged table state judged.0 end (runs_may table files room at state acked tried other runs) judged.1

one_table_end : (table : AppendTable) (files : List LandingFile) (room at : ℕ) (state : State) (acked tried also_acked also_tried : List Payload) (end other : UpdateEnd) → IsOwn end → IsOwn other
    → LoadedEnds (Some table) files room state at acked tried end → LoadedEnds (Some table) files room state at also_acked also_tried other → SameEnd end other tried also_tried
one_table_end table files room at state acked tried also_acked also_tried end other own too (inl p) (inl q) =
    let one = judged_of table state end own p.0 in
    let two = judged_of table state other too q.0 in
    (one_judged table state one.0 two.0 end other one.1 two.1, p.2 ∙ sym q.2)
one_table_end table files room at state acked tried also_acked also_tried end other own too (inl p) (inr q) =
    absurd (judged_runs table files room at state also_acked also_tried end other own p.0 q)
one_table_end table files room at state acked tried also_acked also_tried end other own too (inr p) (inl q) =
    absurd (judged_runs table files room at state acked tried other end too q.0 p)
one_table_end table files room at state acked tried also_acked also_tried end other own too (inr p) (inr q) =
    one_run table files room at state acked tried also_acked also_tried end other own too p q

-- ---- without a table

abbrev pub end_without : List Definition → UpdateEnd
end_without [] = Current
end_without (first ∷ more) = Removed first.name

pub is_without : (state : State) (end : UpdateEnd) → IsOwn end → NoTableEnds state end → end ≡ end_without (definitions_of state)
is_without state (Removed name) own (first, more, are, is) = ap Removed is ∙ sym (ap end_without are)
is_without state Current own none = sym (ap (λ (s : State). end_without (definitions_of s)) none)
is_without state Memory own ends = absurd own
is_without state end own ends = absurd ends

one_loaded_end : (plan : Option AppendTable) (files : List LandingFile) (room at : ℕ) (state : State) (acked tried also_acked also_tried : List Payload) (end other : UpdateEnd) → IsOwn end → IsOwn other
    → LoadedEnds plan files room state at acked tried end → LoadedEnds plan files room state at also_acked also_tried other → SameEnd end other tried also_tried
one_loaded_end None files room at state acked tried also_acked also_tried end other own too p q = (is_without state end own p.0 ∙ sym (is_without state other too q.0), p.2 ∙ sym q.2)
one_loaded_end (Some table) files room at state acked tried also_acked also_tried end other own too p q = one_table_end table files room at state acked tried also_acked also_tried end other own too p q

pub loaded_there : (plan : Option AppendTable) (files : List LandingFile) (room at place : ℕ) (state now : State) (acked tried : List Payload) (end : UpdateEnd) → now ≡ state → place ≡ at
    → LoadedEnds plan files room now place acked tried end → LoadedEnds plan files room state at acked tried end
loaded_there plan files room at place state now acked tried end same goes ends =
    subst (λ (n : ℕ). LoadedEnds plan files room state n acked tried end) goes (subst (λ (s : State). LoadedEnds plan files room s place acked tried end) same ends)

-- ---- the update

pub one_update_end : HasOneState → (plan : Option AppendTable) (found : Found) (loaded also_loaded : Bool) (acked tried also_acked also_tried : List Payload) (end other : UpdateEnd)
    → length found.bytes ≤ 2 ^ 40 → Updates plan found loaded acked tried end → Updates plan found also_loaded also_acked also_tried other → IsOwn end → IsOwn other → (end ≡ other) × (tried ≡ also_tried)
one_update_end law plan found false false acked tried also_acked also_tried end other small p q own too =
    let one = refusal_of found end own p.0 in
    let two = refusal_of found other too q.0 in
    (one_refusal law found one.0 two.0 end other (small_enough (length found.bytes) small) one.1 two.1, p.2 ∙ sym q.2)
one_update_end law plan found false true acked tried also_acked also_tried end other small p (state, at, loaded, ends) own too =
    absurd (not_both_loaded law found state at end (small_enough (length found.bytes) small) loaded own p.0)
one_update_end law plan found true false acked tried also_acked also_tried end other small (state, at, loaded, ends) q own too =
    absurd (not_both_loaded law found state at other (small_enough (length found.bytes) small) loaded too q.0)
one_update_end law plan found true true acked tried also_acked also_tried end other small (state, at, loaded, ends) (now, place, also_is, more) own too =
    let short = small_enough (length found.bytes) small in
    one_loaded_end plan found.landing found.room at state acked tried also_acked also_tried end other own too ends
    (loaded_there plan found.landing found.room at place state now also_acked also_tried other (law.one found.bytes now state short also_is.is loaded.is)
    (law.one_end found.bytes place at short also_is.ends loaded.ends) more)

-- the same of a store that is taken for another
ends_alike : HasOneState → (plan : Option AppendTable) (found : Found) (state : State) (at : ℕ) (acked tried : List Payload) (end : UpdateEnd) → length found.bytes < 2 ^ 64 → HasState found.bytes state → EndsAt at found.bytes
    → (now : State) (place : ℕ) → Loaded found now place → LoadedEnds plan found.landing found.room now place acked tried end → LoadedEnds plan found.landing found.room state at acked tried end
ends_alike law plan found state at acked tried end short is goes now place loaded ends =
    loaded_there plan found.landing found.room at place state now acked tried end (law.one found.bytes now state short loaded.is is) (law.one_end found.bytes place at short loaded.ends goes) ends

around_there : (plan : Option AppendTable) (files more : List LandingFile) (room limit : ℕ) (state : State) (at : ℕ) (acked tried : List Payload) (end : UpdateEnd) → limit ≡ room → more ≡ files
    → LoadedEnds plan more limit state at acked tried end → LoadedEnds plan files room state at acked tried end
around_there plan files more room limit state at acked tried end same there ends =
    subst (λ (f : List LandingFile). LoadedEnds plan f room state at acked tried end) there (subst (λ (n : ℕ). LoadedEnds plan more n state at acked tried end) same ends)

pub alike_updates : HasOneState → (plan : Option AppendTable) (found also : Found) (loaded also_loaded : Bool) (acked tried also_acked also_tried : List Payload) (end other : UpdateEnd)
    → length found.bytes ≤ 2 ^ 40 → length also.bytes ≤ 2 ^ 40 → Alike found.bytes also.bytes → also.room ≡ found.room → also.landing ≡ found.landing
    → Updates plan found loaded acked tried end → Updates plan also also_loaded also_acked also_tried other → IsOwn end → IsOwn other → (end ≡ other) × (tried ≡ also_tried)
alike_updates law plan found also false false acked tried also_acked also_tried end other small too_small alike room landing p q own too =
    let one = lacks_room law found alike.state end (small_enough (length found.bytes) small) alike.is own p.0 in
    let two = lacks_room law also alike.state other (small_enough (length also.bytes) too_small) alike.other_is too q.0 in
    (one.2 ∙ ap (Full 18) (sym room) ∙ sym two.2, p.2 ∙ sym q.2)
alike_updates law plan found also false true acked tried also_acked also_tried end other small too_small alike room landing p (state, at, loaded, ends) own too =
    absurd (not_lacking found also state at end alike.begun.0 room loaded (lacks_room law found alike.state end (small_enough (length found.bytes) small) alike.is own p.0))
alike_updates law plan found also true false acked tried also_acked also_tried end other small too_small alike room landing (state, at, loaded, ends) q own too =
    absurd (not_lacking also found state at other alike.begun.1 (sym room) loaded (lacks_room law also alike.state other (small_enough (length also.bytes) too_small) alike.other_is too q.0))
alike_updates law plan found also true true acked tried also_acked also_tried end other small too_small alike room landing (state, at, loaded, ends) (now, place, also_is, more) own too =
    one_loaded_end plan found.landing found.room alike.at alike.state acked tried also_acked also_tried end other own too
    (ends_alike law plan found alike.state alike.at acked tried end (small_enough (length found.bytes) small) alike.is alike.ends state at loaded ends)
    (around_there plan found.landing also.landing found.room also.room alike.state alike.at also_acked also_tried other room landing
    (ends_alike law plan also alike.state alike.at also_acked also_tried other (small_enough (length also.bytes) too_small) alike.other_is alike.other_ends now place also_is more))
