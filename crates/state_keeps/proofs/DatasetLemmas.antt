-- A dataset of a store stays one that a store may have.
use Rattle.std.proofs.Common.{◌≡◌, ℕ, zero, suc, ◌+◌, ◌-◌, ◌<◌, ◌≤◌, ◌^◌, List, [], ◌∷◌, ◌++◌, map, take, drop, length, Bool, true, false, ◌&&◌, cond, if◌then◌else◌, Option, Some, None, refl, sym, ap, subst, arith, length-append}
use Rattle.std.specs.Prelude.{◌==◌, find, nat_lt}
use Rattle.std.specs.List.{AllByRecursion, list_all}
use Rattle.std.proofs.lemmas.Bool.{and_from, and_parts}
use Rattle.std.proofs.lemmas.List.{length-map}
use Rattle.value_core.specs.declared.change.Change.{Change}
use Rattle.value_core.specs.declared.change.Tally.{Tally}
use Rattle.value_core.specs.declared.cursor.Cursor.{Cursor}
use Rattle.value_core.specs.declared.cursor.Cursor.TheVariants.{Files, At, Never}
use Rattle.value_core.specs.declared.event.Event.{Event}
use Rattle.value_core.specs.Bags.{in_row_order}
use Rattle.value_core.specs.Changes.{Holds, IsChange}
use Rattle.value_core.specs.EventOrder.{event_order}
use Rattle.value_core.specs.Order.{Row}
use Rattle.value_core.specs.Tallies.{added}
use Rattle.value_core.proofs.BagLemmas.{count-in_row_order, order-in_row_order}
use Rattle.segment_rows.specs.EventParts.{has_its_parts}
use Rattle.table_versions.proofs.ContentLemmas.{content_order, follow_drop, follow_more}
use Rattle.commit_payloads.specs.declared.definition.Definition.{Definition}
use Rattle.commit_payloads.specs.declared.definition.StoredBody.{StoredBody}
use Rattle.commit_payloads.specs.declared.definition.StoredBody.TheVariants.{Append, Scd1, Scd2, View}
use Rattle.commit_payloads.specs.declared.definition.StoredExpectation.{StoredExpectation}
use Rattle.commit_payloads.specs.declared.definition.StoredFlow.{StoredFlow}
use Rattle.commit_payloads.specs.declared.definition.StoredOrigin.{StoredOrigin}
use Rattle.commit_payloads.specs.declared.definition.StoredOrigin.TheVariants.{Folder, Table}
use Rattle.commit_payloads.specs.declared.take.Refresh.{Refresh}
use Rattle.commit_payloads.specs.declared.take.Take.{Take}
use Rattle.commit_payloads.specs.Forms.{IsBatch, IsKept, IsProgress, IsRenewal, all_have_their_parts, fits_its_body, fits_the_body, is_own_flow}
use Rattle.state_model.specs.After.{begun, begun_cursor, emptied, emptying, events_with, first_cursor, moved, no_tally, refreshed, taken}
use Rattle.state_model.specs.Dataset.{Dataset, State, content, cursor_in, cursor_of, is_flow, version_of}
use Rattle.state_model.specs.Follows.{CursorsFit, FitsRefresh, FitsStored, FitsTake, FlowMoves, MovesOn, counts_fit, event_fits, is_append_body, is_view, is_within, keeps_events, tally_fits}
use Rattle.state_model.specs.Saved.{base_for, folded_for, kept_of}
use Rattle.state_keeps.proofs.ListTools.{adds_fit, after_fits, all_append, all_dropped, all_sorted, all_taken, both_of, head_of, tail_of}
use Rattle.state_keeps.proofs.OrderLemmas.{events_ascend}

-- a dataset as a store may have it, in the form in which it is written
pub record IsGood (state : State) (d : Dataset) : Type 0 where
  pub fits : FitsStored state d
  pub form : IsKept (kept_of d)

-- ---- counts

pub zero_within : (xs : List StoredExpectation) → counts_fit (map no_tally xs) (map no_tally xs) ≡ true
zero_within [] = refl
zero_within (x ∷ xs) = zero_within xs

beside_zero : (n : ℕ) → nat_lt n (2 ^ 63) ≡ true → nat_lt (0 + n) (2 ^ 63) ≡ true
beside_zero n h = let same : n ≡ 0 + n = omega arith in subst (λ (m : ℕ). nat_lt m (2 ^ 63) ≡ true) same h

tally_within : (kept more : Tally) → tally_fits kept more ≡ true → tally_fits (record { passed = 0; failed = 0 }) (record { passed = kept.passed + more.passed; failed = kept.failed + more.failed }) ≡ true
tally_within kept more h =
    let parts = and_parts (is_within kept.passed more.passed) (is_within kept.failed more.failed) h in
    and_from (is_within 0 (kept.passed + more.passed)) (is_within 0 (kept.failed + more.failed)) (beside_zero (kept.passed + more.passed) parts.0) (beside_zero (kept.failed + more.failed) parts.1)

pub added_within : (xs : List StoredExpectation) (kept more : List Tally) → counts_fit (map no_tally xs) kept ≡ true → counts_fit kept more ≡ true → counts_fit (map no_tally xs) (added kept more) ≡ true
added_within [] [] more h j = refl
added_within [] (k ∷ ks) more h j = cc
added_within (x ∷ xs) [] more h j = cc
added_within (x ∷ xs) (k ∷ ks) [] h j = cc
added_within (x ∷ xs) (k ∷ ks) (m ∷ ms) h j =
    let behind = and_parts (tally_fits (no_tally x) k) (counts_fit (map no_tally xs) ks) h in
    let now = and_parts (tally_fits k m) (counts_fit ks ms) j in
    and_from (tally_fits (no_tally x) (record { passed = k.passed + m.passed; failed = k.failed + m.failed })) (counts_fit (map no_tally xs) (added ks ms)) (tally_within k m now.0) (added_within xs ks ms behind.1 now.1)

counted : (xs : List StoredExpectation) (counts : List Tally) → counts_fit (map no_tally xs) counts ≡ true → length counts ≡ length xs
counted [] [] h = refl
counted [] (k ∷ ks) h = cc
counted (x ∷ xs) [] h = cc
counted (x ∷ xs) (k ∷ ks) h = ap suc (counted xs ks (and_parts (tally_fits (no_tally x) k) (counts_fit (map no_tally xs) ks) h).1)

-- ---- bodies

pub append_of : (b : StoredBody) → keeps_events b ≡ false → is_view b ≡ false → is_append_body b ≡ true
append_of Append e v = refl
append_of Scd1 e v = cc
append_of Scd2 e v = cc
append_of View e v = cc

-- ---- cursors

begun_fit : (state : State) (flows : List StoredFlow) → CursorsFit state flows (map first_cursor flows)
begun_fit state [] = tt
begun_fit state (flow ∷ flows) = (by flow.origin, begun_fit state flows)
  where
    by : (from : StoredOrigin) → MovesOn state from (begun_cursor from) (begun_cursor from)
    by (Folder folder) = refl
    by (Table source) = tt

begun_progress : (flows : List StoredFlow) → AllByRecursion IsProgress (map first_cursor flows)
begun_progress [] = tt
begun_progress (flow ∷ flows) = (by flow.origin, begun_progress flows)
  where
    by : (from : StoredOrigin) → IsProgress (begun_cursor from)
    by (Folder folder) = tt
    by (Table source) = tt

-- a cursor that moves on from another one does so from the beginning
from_begun : (state : State) (from : StoredOrigin) (old new : Cursor) → MovesOn state from old new → MovesOn state from (begun_cursor from) new
from_begun state (Folder folder) (Files old) (Files new) moves = refl
from_begun state (Folder folder) (Files old) (At v) moves = absurd moves
from_begun state (Folder folder) (Files old) Never moves = absurd moves
from_begun state (Folder folder) (At v) new moves = absurd moves
from_begun state (Folder folder) Never new moves = absurd moves
from_begun state (Table source) (Files old) new moves = absurd moves
from_begun state (Table source) Never (Files new) moves = absurd moves
from_begun state (Table source) Never Never moves = tt
from_begun state (Table source) Never (At v) moves = moves
from_begun state (Table source) (At old) (Files new) moves = absurd moves
from_begun state (Table source) (At old) Never moves = absurd moves
from_begun state (Table source) (At old) (At v) moves = moves.1

moved_by : (state : State) (name : List ℕ) (new : Cursor) (flow : StoredFlow) (flows : List StoredFlow) (cursor : Cursor) (cursors : List Cursor) (b : Bool)
    → FlowMoves state (cond b (Some flow) (find (is_flow name) flows)) (if b then Some cursor else cursor_in flows cursors name) new → MovesOn state flow.origin (begun_cursor flow.origin) cursor → CursorsFit state flows cursors
    → (FlowMoves state (find (is_flow name) flows) (cursor_in flows cursors name) new → CursorsFit state flows (moved flows cursors name new))
    → CursorsFit state (flow ∷ flows) (if b then new ∷ cursors else cursor ∷ moved flows cursors name new)
moved_by state name new flow flows cursor cursors true moves first rest behind = (from_begun state flow.origin cursor new moves, rest)
moved_by state name new flow flows cursor cursors false moves first rest behind = (first, behind moves)

moved_fit : (state : State) (name : List ℕ) (new : Cursor) (flows : List StoredFlow) (cursors : List Cursor) → FlowMoves state (find (is_flow name) flows) (cursor_in flows cursors name) new → CursorsFit state flows cursors
    → CursorsFit state flows (moved flows cursors name new)
moved_fit state name new [] cursors moves fit = absurd moves
moved_fit state name new (flow ∷ flows) [] moves fit = absurd fit
moved_fit state name new (flow ∷ flows) (cursor ∷ cursors) moves fit =
    moved_by state name new flow flows cursor cursors (is_flow name flow) moves fit.0 fit.1 (λ m. moved_fit state name new flows cursors m fit.1)

progress_by : (new cursor : Cursor) (cursors behind : List Cursor) (b : Bool) → IsProgress new → IsProgress cursor → AllByRecursion IsProgress cursors → AllByRecursion IsProgress behind
    → AllByRecursion IsProgress (if b then new ∷ cursors else cursor ∷ behind)
progress_by new cursor cursors behind true n c rest r = (n, rest)
progress_by new cursor cursors behind false n c rest r = (c, r)

moved_progress : (name : List ℕ) (new : Cursor) (flows : List StoredFlow) (cursors : List Cursor) → IsProgress new → AllByRecursion IsProgress cursors → AllByRecursion IsProgress (moved flows cursors name new)
moved_progress name new [] cursors is all = all
moved_progress name new (flow ∷ flows) [] is all = tt
moved_progress name new (flow ∷ flows) (cursor ∷ cursors) is all =
    progress_by new cursor cursors (moved flows cursors name new) (is_flow name flow) is all.0 all.1 (moved_progress name new flows cursors is all.1)

-- the one flow of a view
one_by : (state : State) (flow : StoredFlow) (cursor : Option Cursor) (new : Cursor) (b : Bool) → FlowMoves state (cond b (Some flow) None) cursor new → MovesOn state flow.origin (begun_cursor flow.origin) new
one_by state flow None new true moves = absurd moves
one_by state flow (Some old) new true moves = from_begun state flow.origin old new moves
one_by state flow cursor new false moves = absurd moves

one_flow : (state : State) (name : List ℕ) (flows : List StoredFlow) (cursor : Option Cursor) (new : Cursor) → is_own_flow name flows ≡ true → FlowMoves state (find (is_flow name) flows) cursor new → CursorsFit state flows (new ∷ [])
one_flow state name [] cursor new own moves = cc
one_flow state name (flow ∷ []) cursor new own moves = (one_by state flow cursor new (is_flow name flow) moves, tt)
one_flow state name (flow ∷ other ∷ more) cursor new own moves = cc

view_flow : (definition : Definition) → is_view definition.body ≡ true → fits_its_body definition ≡ true → is_own_flow definition.name definition.flows ≡ true
view_flow definition is fits = by definition.body is fits
  where
    by : (b : StoredBody) → is_view b ≡ true → fits_the_body b definition ≡ true → is_own_flow definition.name definition.flows ≡ true
    by Append v f = cc
    by Scd1 v f = cc
    by Scd2 v f = cc
    by View v f = (and_parts (length definition.keys == 0 && length definition.sequence == 0) (is_own_flow definition.name definition.flows) f).1

-- ---- events

have_of : (events : List Event) → all_have_their_parts events ≡ true → list_all has_its_parts events ≡ true
have_of [] h = refl
have_of (event ∷ events) h = let parts = and_parts (has_its_parts event) (all_have_their_parts events) h in both_of has_its_parts event events parts.0 (have_of events parts.1)

of_have : (events : List Event) → list_all has_its_parts events ≡ true → all_have_their_parts events ≡ true
of_have [] h = refl
of_have (event ∷ events) h = and_from (has_its_parts event) (all_have_their_parts events) (head_of has_its_parts event events h) (of_have events (tail_of has_its_parts event events h))

parts_with : (kept new : List Event) → all_have_their_parts kept ≡ true → all_have_their_parts new ≡ true → all_have_their_parts (events_with kept new) ≡ true
parts_with kept new h j = of_have (events_with kept new) (all_sorted has_its_parts event_order (kept ++ new) (all_append has_its_parts kept new (have_of kept h) (have_of new j)))

-- ---- changes

changes_more : (changes : List Change) (change : Change) → AllByRecursion IsChange changes → IsChange change → AllByRecursion IsChange (changes ++ change ∷ [])
changes_more [] change all form = (form, tt)
changes_more (first ∷ changes) change all form = (all.0, changes_more changes change all.1 form)

changes_drop : (n : ℕ) (changes : List Change) → AllByRecursion IsChange changes → AllByRecursion IsChange (drop n changes)
changes_drop zero changes all = all
changes_drop (suc n) [] all = tt
changes_drop (suc n) (first ∷ changes) all = changes_drop n changes all.1

pub emptying_form : (rows : List Row) → IsChange (emptying rows)
emptying_form rows = (order-in_row_order rows, tt, λ row h. refl)

pub emptying_there : (rows : List Row) → Holds rows (in_row_order rows)
emptying_there rows row = omega (arith, count-in_row_order row rows)

next_within : (base n limit : ℕ) (m : ℕ) → m ≡ n + 1 → base + n < limit → base + m ≤ limit
next_within base n limit m e less = omega arith

-- ---- one dataset

pub begun_good : (state : State) (definition : Definition) → IsGood state (begun definition)
begun_good state definition = record {
  fits =
      record {
        follow = tt;
        limit = omega arith;
        rows_fit = refl;
        changes_fit = refl;
        cursors = begun_fit state definition.flows;
        one_each = length-map definition.expectations no_tally;
        within = zero_within definition.expectations;
        no_events = λ e. refl;
        events_fit = refl;
      };
  form = record { rows = tt; changes = tt; cursors = begun_progress definition.flows; events = refl; order = refl };
}

pub taken_good : (state : State) (batch : Take) (d : Dataset) → IsGood state d → FitsTake state batch d → IsBatch batch → version_of d < 2 ^ 62 → IsGood state (taken batch d)
taken_good state batch d good fits form less =
    let within : counts_fit (map no_tally d.definition.expectations) (added d.counts batch.counts) ≡ true = added_within d.definition.expectations d.counts batch.counts good.fits.within fits.table.within in
    record {
      fits =
          record {
            follow = follow_more d.table.rows d.table.changes batch.change good.fits.follow form.1 fits.table.are_there;
            limit = next_within d.table.base (length d.table.changes) (2 ^ 62) (length (d.table.changes ++ batch.change ∷ [])) (length-append d.table.changes (batch.change ∷ [])) less;
            rows_fit = good.fits.rows_fit;
            changes_fit = all_append (adds_fit d.definition.columns) d.table.changes (batch.change ∷ []) good.fits.changes_fit (both_of (adds_fit d.definition.columns) batch.change [] fits.table.rows_fit refl);
            cursors = moved_fit state batch.flow batch.cursor d.definition.flows d.cursors fits.moves good.fits.cursors;
            one_each = counted d.definition.expectations (added d.counts batch.counts) within;
            within = within;
            no_events = λ e. let none : batch.events ≡ [] = fits.table.no_events (append_of d.definition.body e fits.table.takes) in λ i. events_with (good.fits.no_events e i) (none i);
            events_fit = all_sorted (event_fits d.definition) event_order (d.events ++ batch.events) (all_append (event_fits d.definition) d.events batch.events good.fits.events_fit fits.table.events_fit);
          };
      form =
          record {
            rows = good.form.rows;
            changes = changes_more d.table.changes batch.change good.form.changes form.1;
            cursors = moved_progress batch.flow batch.cursor d.definition.flows d.cursors form.0 good.form.cursors;
            events = parts_with d.events batch.events good.form.events form.2;
            order = events_ascend d.events batch.events good.form.order fits.table.events_new;
          };
    }

pub refreshed_good : (state : State) (refresh : Refresh) (d : Dataset) → IsGood state d → FitsRefresh state refresh d → IsRenewal refresh → fits_its_body d.definition ≡ true → version_of d < 2 ^ 62 → IsGood state (refreshed refresh d)
refreshed_good state refresh d good fits form body_fits less = record {
  fits =
      record {
        follow = follow_more d.table.rows d.table.changes refresh.change good.fits.follow form.1 fits.are_there;
        limit = next_within d.table.base (length d.table.changes) (2 ^ 62) (length (d.table.changes ++ refresh.change ∷ [])) (length-append d.table.changes (refresh.change ∷ [])) less;
        rows_fit = good.fits.rows_fit;
        changes_fit = all_append (adds_fit d.definition.columns) d.table.changes (refresh.change ∷ []) good.fits.changes_fit (both_of (adds_fit d.definition.columns) refresh.change [] fits.rows_fit refl);
        cursors = one_flow state d.definition.name d.definition.flows (cursor_of d d.definition.name) refresh.cursor (view_flow d.definition fits.view body_fits) fits.moves;
        one_each = fits.one_each;
        within = fits.within;
        no_events = good.fits.no_events;
        events_fit = good.fits.events_fit;
      };
  form =
      record {
        rows = good.form.rows;
        changes = changes_more d.table.changes refresh.change good.form.changes form.1;
        cursors = (form.0, tt);
        events = good.form.events;
        order = good.form.order;
      };
}

pub emptied_good : (state : State) (d : Dataset) → IsGood state d → version_of d < 2 ^ 62 → IsGood state (emptied d)
emptied_good state d good less = record {
  fits =
      record {
        follow = follow_more d.table.rows d.table.changes (emptying (content d)) good.fits.follow (emptying_form (content d)) (emptying_there (content d));
        limit = next_within d.table.base (length d.table.changes) (2 ^ 62) (length (d.table.changes ++ emptying (content d) ∷ [])) (length-append d.table.changes (emptying (content d) ∷ [])) less;
        rows_fit = good.fits.rows_fit;
        changes_fit = all_append (adds_fit d.definition.columns) d.table.changes (emptying (content d) ∷ []) good.fits.changes_fit refl;
        cursors = begun_fit state d.definition.flows;
        one_each = length-map d.definition.expectations no_tally;
        within = zero_within d.definition.expectations;
        no_events = λ e. refl;
        events_fit = refl;
      };
  form =
      record {
        rows = good.form.rows;
        changes = changes_more d.table.changes (emptying (content d)) good.form.changes (emptying_form (content d));
        cursors = begun_progress d.definition.flows;
        events = refl;
        order = refl;
      };
}

pub folded_good : (state whole : State) (d : Dataset) → IsGood state d → version_of (folded_for whole d) ≡ version_of d → IsGood state (folded_for whole d)
folded_good state whole d good same = record {
  fits =
      record {
        follow = follow_drop (base_for whole d - d.table.base) d.table.rows d.table.changes good.fits.follow;
        limit = subst (λ (n : ℕ). n ≤ 2 ^ 62) (sym same) good.fits.limit;
        rows_fit =
            after_fits d.definition.columns d.table.rows (take (base_for whole d - d.table.base) d.table.changes) good.fits.rows_fit
            (all_taken (adds_fit d.definition.columns) (base_for whole d - d.table.base) d.table.changes good.fits.changes_fit);
        changes_fit = all_dropped (adds_fit d.definition.columns) (base_for whole d - d.table.base) d.table.changes good.fits.changes_fit;
        cursors = good.fits.cursors;
        one_each = good.fits.one_each;
        within = good.fits.within;
        no_events = good.fits.no_events;
        events_fit = good.fits.events_fit;
      };
  form =
      record {
        rows = content_order d.table.rows (take (base_for whole d - d.table.base) d.table.changes) good.form.rows;
        changes = changes_drop (base_for whole d - d.table.base) d.table.changes good.form.changes;
        cursors = good.form.cursors;
        events = good.form.events;
        order = good.form.order;
      };
}
