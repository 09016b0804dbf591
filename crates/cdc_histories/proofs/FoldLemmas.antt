-- The events of a key, folded into its history.
use Rattle.std.proofs.Common.{◌≡◌, ◌<◌, ◌-◌, ℕ, zero, suc, Bool, true, false, if◌then◌else◌, length, slice_index_or, arith, List, [], ◌∷◌, ◌++◌, Option, Some, None, refl, sym, ap, ◌∙◌, subst, append_assoc}
use Rattle.std.specs.Prelude.{unwrap_or, map}
use Rattle.std.specs.declared.cmp.Ordering.TheVariants.{Less, Equal}
use Rattle.std.specs.Ordering.{ordering_then}
use Rattle.std.specs.Cmp.{tied_itself}
use Rattle.value_core.specs.declared.event.Event.{Event}
use Rattle.value_core.specs.EventOrder.{is_upsert}
use Rattle.value_core.specs.Order.{Row, row_order}
use Rattle.value_core.specs.OrderLaws.{row_order_total}
use Rattle.event_history.specs.declared.history.Entry.{Entry}
use Rattle.event_history.specs.Histories.{AllAbove, AllBelow, AreAscending, events_of}
use Rattle.flow_model.specs.Current.{after_event, merged}
use Rattle.flow_model.specs.History.{interval_row, key_rows}
use Rattle.cdc_runs.specs.Entries.{columns_after, moments_of}
use Rattle.cdc_runs.specs.Runs.{ends_in}
use Rattle.cdc_runs.proofs.RunLemmas.{runs_are}
use Rattle.cdc_scd2.specs.Cache.{CachedFrom, IsCached, last_state}
use Rattle.cdc_scd2.specs.Keys.{AreKeyed}
use Rattle.cdc_scd2.specs.Splices.{rows_of}
use Rattle.cdc_scd2.proofs.WholeLemmas.{cached_rows}
use Rattle.cdc_histories.specs.declared.cutting.KeyEvents.{KeyEvents}
use Rattle.cdc_histories.specs.declared.folding.KeyHistory.{KeyHistory}
use Rattle.cdc_histories.specs.Building.{AllLater, AreOfKey, AreRising, IsFolded, IsPart, entries_from, moment_order}

abbrev entry_with : Event → Option Row → Entry
entry_with event columns = record { event = event; effective = unwrap_or columns [] }

effective_by : (b : Bool) (row : Row) → (if b then Some (unwrap_or (if b then Some row else None) []) else None) ≡ (if b then Some row else None)
effective_by true row = refl
effective_by false row = refl

effective_is : (ignore_null : Bool) (before : Option Row) (event : Event) → columns_after (entry_with event (after_event ignore_null before event)) ≡ after_event ignore_null before event
effective_is ignore_null before event = effective_by (is_upsert event) (if ignore_null then merged before event.columns else event.columns)

-- ---- entry by entry

-- the columns from the last entry on are those after all
pub last_is : (state : Option Row) (entries : List Entry) (x : Entry) → 0 < length entries → ((d : Entry) → x ≡ slice_index_or entries (length entries - 1) d) → columns_after x ≡ last_state state entries
last_is state [] x some is = absurd (omega arith)
last_is state (r ∷ []) x some is = let e : suc zero - 1 ≡ zero = omega arith in ap columns_after (is r ∙ ap (λ k. slice_index_or (r ∷ []) k r) e)
last_is state (r ∷ (q ∷ qs)) x some is =
    let e : suc (suc (length qs)) - 1 ≡ suc (suc (length qs) - 1) = omega arith in
    last_is (columns_after r) (q ∷ qs) x (omega arith) (λ d. is d ∙ ap (λ k. slice_index_or (r ∷ (q ∷ qs)) k d) e)

last_more : (state : Option Row) (entries : List Entry) (entry : Entry) → last_state state (entries ++ entry ∷ []) ≡ columns_after entry
last_more state [] entry = refl
last_more state (x ∷ xs) entry = last_more (columns_after x) xs entry

entry_is : (ignore_null : Bool) (before : Option Row) (entry : Entry) (event : Event) → entry.event ≡ event → entry.effective ≡ unwrap_or (after_event ignore_null before event) [] → entry ≡ entry_with event (after_event ignore_null before event)
entry_is ignore_null before entry event is columns = λ i. record { event = is i; effective = columns i }

-- the entries so far, and one more of the first event that is left
pub entries_next : (ignore_null : Bool) (made after whole : List Entry) (entry : Entry) (x : Event) (xs : List Event) → entry.event ≡ x → entry.effective ≡ unwrap_or (after_event ignore_null (last_state None made) x) []
    → after ≡ made ++ entry ∷ [] → made ++ entries_from ignore_null (last_state None made) (x ∷ xs) ≡ whole → after ++ entries_from ignore_null (last_state None after) xs ≡ whole
entries_next ignore_null made after whole entry x xs event columns is before =
    let state : Option Row = after_event ignore_null (last_state None made) x in
    let one : entry ≡ entry_with x state = entry_is ignore_null (last_state None made) entry x event columns in
    let last : last_state None after ≡ state =
    ap (last_state None) is ∙ last_more None made entry ∙ ap columns_after one ∙ effective_is ignore_null (last_state None made) x in
    (λ i. is i ++ entries_from ignore_null (last i) xs)
    ∙ append_assoc made (entry ∷ []) (entries_from ignore_null state xs)
    ∙ ap (λ e. made ++ (e ∷ entries_from ignore_null state xs)) one
    ∙ before

-- ---- what the entries are

cached_from : (ignore_null : Bool) (before : Option Row) (events : List Event) → CachedFrom ignore_null before (entries_from ignore_null before events)
cached_from ignore_null before [] = tt
cached_from ignore_null before (x ∷ xs) =
    let is = effective_is ignore_null before x in
    (is, subst (λ state. CachedFrom ignore_null state (entries_from ignore_null (after_event ignore_null before x) xs)) (sym is) (cached_from ignore_null (after_event ignore_null before x) xs))

events_from : (ignore_null : Bool) (before : Option Row) (events : List Event) → events_of (entries_from ignore_null before events) ≡ events
events_from ignore_null before [] = refl
events_from ignore_null before (x ∷ xs) = ap (λ ys. x ∷ ys) (events_from ignore_null (after_event ignore_null before x) xs)

same_key : (a b key : Row) → a ≡ key → b ≡ key → row_order a b ≡ Equal
same_key a b key e f = ap (row_order a) (f ∙ sym e) ∙ tied_itself row_order_total a

sequence_less : (a b : Event) → row_order a.key b.key ≡ Equal → moment_order a b ≡ Less → row_order a.sequence b.sequence ≡ Less
sequence_less a b same less = sym (ap (λ o. ordering_then o (row_order a.sequence b.sequence)) same) ∙ less

above_from : (ignore_null : Bool) (before : Option Row) (key : Row) (x : Event) (xs : List Event) → x.key ≡ key → AreOfKey key xs → AllLater x xs → AllAbove x.sequence (entries_from ignore_null before xs)
above_from ignore_null before key x [] mine own later = tt
above_from ignore_null before key x (y ∷ ys) mine own later =
    (sequence_less x y (same_key x.key y.key key mine own.0) later.0, above_from ignore_null (after_event ignore_null before y) key x ys mine own.1 later.1)

ascending_from : (ignore_null : Bool) (before : Option Row) (key : Row) (xs : List Event) → AreOfKey key xs → AreRising xs → AreAscending (entries_from ignore_null before xs)
ascending_from ignore_null before key [] own rising = tt
ascending_from ignore_null before key (x ∷ xs) own rising =
    (above_from ignore_null (after_event ignore_null before x) key x xs own.0 own.1 rising.0, ascending_from ignore_null (after_event ignore_null before x) key xs own.1 rising.1)

pub ascending_part : (ignore_null : Bool) (part : KeyEvents) (entries : List Entry) → IsPart part → entries ≡ entries_from ignore_null None part.events → AreAscending entries
ascending_part ignore_null part entries is made = subst AreAscending (sym made) (ascending_from ignore_null None part.key part.events is.own is.rising)

pub folded_part : (ignore_null : Bool) (tracked : List ℕ) (part : KeyEvents) (folded : KeyHistory) (entries : List Entry) → IsPart part → entries ≡ entries_from ignore_null None part.events
    → folded.key ≡ part.key → folded.history ≡ entries → folded.rows ≡ rows_of tracked entries → IsFolded ignore_null tracked part folded
folded_part ignore_null tracked part folded entries is made key history rows =
    let all : folded.history ≡ entries_from ignore_null None part.events = history ∙ made in
    let events : events_of folded.history ≡ part.events = ap events_of all ∙ events_from ignore_null None part.events in
    let cached : IsCached ignore_null entries = subst (IsCached ignore_null) (sym made) (cached_from ignore_null None part.events) in
    record {
      same_key = key;
      kept = record {
        order = subst AreAscending (sym history) (ascending_part ignore_null part entries is made);
        cached = subst (IsCached ignore_null) (sym history) cached;
        keyed = subst AreKeyed (sym events) is.keyed;
      };
      same_events = events;
      tells = rows ∙ cached_rows ignore_null tracked entries cached ∙ ap (key_rows ignore_null tracked) (sym (ap events_of history) ∙ events);
    }

pub rows_told : (tracked : List ℕ) (entries : List Entry) (before after : List Row) → before ≡ [] → after ≡ before ++ map interval_row (ends_in tracked None (moments_of entries) []) → after ≡ rows_of tracked entries
rows_told tracked entries before after none is =
    is ∙ ap (λ rows. rows ++ map interval_row (ends_in tracked None (moments_of entries) [])) none ∙ ap (map interval_row) (sym (runs_are tracked (moments_of entries)))

-- ---- entry behind entry

above_at : (s : Row) (xs rest : List Entry) (entry : Entry) → AllAbove s (xs ++ entry ∷ rest) → row_order s entry.event.sequence ≡ Less
above_at s [] rest entry above = above.0
above_at s (x ∷ xs) rest entry above = above_at s xs rest entry above.1

below_last : (made rest : List Entry) (entry : Entry) → AreAscending (made ++ entry ∷ rest) → AllBelow entry.event.sequence made
below_last [] rest entry order = tt
below_last (x ∷ xs) rest entry order = (above_at x.event.sequence xs rest entry order.0, below_last xs rest entry order.1)

pub below_next : (made rest whole : List Entry) (entry : Entry) → AreAscending whole → made ++ entry ∷ rest ≡ whole → AllBelow entry.event.sequence made
below_next made rest whole entry order is = below_last made rest entry (subst AreAscending (sym is) order)
