-- One event more in the history of its key.
use Rattle.std.proofs.Common.{◌≡◌, ◌<◌, ◌≤◌, ◌+◌, ◌*◌, ◌^◌, ℕ, Bool, true, false, cond, ◌&&◌, if◌then◌else◌, List, [], ◌∷◌, ◌++◌, length, Some, Result, Ok, Err, OnErr, refl, sym, ap, ◌∙◌, subst, arith}
use Rattle.std.specs.List.Sorted.{IsStrictlySortedBy}
use Rattle.std.specs.Map.{keys_of as map_keys, lookup, set_value}
use Rattle.std.specs.BTreeMap.{insert_entry, is_at}
use Rattle.std.specs.declared.cmp.Ordering.{Ordering}
use Rattle.std.specs.declared.cmp.Ordering.TheVariants.{Less, Equal, Greater}
use Rattle.std.specs.Ordering.{is_gt, match_ordering}
use Rattle.std.proofs.lemmas.Map.{keys-set_value}
use Rattle.value_core.specs.declared.event.Event.{Event}
use Rattle.value_core.specs.Bags.{net_change}
use Rattle.value_core.specs.EventOrder.{Fresh, Repeat, Tied, event_order, history_order, is_truncate, placed_by, same_event, same_moment, sorted_by, standing}
use Rattle.value_core.specs.Order.{Row, row_order, same_row}
use Rattle.value_core.specs.OrderLaws.{same_row_laws}
use Rattle.event_history.specs.declared.history.Entry.{Entry}
use Rattle.event_history.specs.Histories.{AreAscending, events_of}
use Rattle.event_ledger.specs.Keyed.{all_events, AreOf, of_key}
use Rattle.event_ledger.specs.Spots.{entry_placed}
use Rattle.event_ledger.proofs.Keys.{events_put, found, keyed_insert, keyed_set, looks_found, own_found, stands_found}
use Rattle.flow_model.specs.Current.{history}
use Rattle.flow_model.specs.History.{key_rows, scd2}
use Rattle.cdc_scd2.specs.Cache.{IsAbsent, IsCached}
use Rattle.cdc_scd2.specs.Keys.{AreKeyed}
use Rattle.cdc_scd2.specs.Looks.{touched}
use Rattle.cdc_histories.specs.Keeping.{AreHistories, AreInParts, IsHistory}
use Rattle.cdc_histories.proofs.PartLemmas.{history_is, keyed_all, one_history, sorted_is}

-- ---- a free moment

free_by : (kept event : Event) (more : List Event) (b c : Bool) → (if b then (if c then Repeat else Tied kept) else standing more event) ≡ Fresh → (b ≡ false) × (standing more event ≡ Fresh)
free_by kept event more true true e = cc
free_by kept event more true false e = cc
free_by kept event more false c e = (refl, e)

pub free : (kept event : Event) (more : List Event) → standing (kept ∷ more) event ≡ Fresh → (same_moment kept event ≡ false) × (standing more event ≡ Fresh)
free kept event more is = free_by kept event more (same_moment kept event) (same_event kept event) is

-- an event of a free moment has another sequence than each event of its key
absent_is : (entries : List Entry) (event : Event) → AreOf event.key entries → standing (events_of entries) event ≡ Fresh → IsAbsent event.sequence entries
absent_is [] event of fresh = tt
absent_is (x ∷ xs) event of fresh =
    let rest = free x.event event (events_of xs) fresh in (
      λ same. (
          let key : same_row x.event.key event.key ≡ true = ap (λ z. same_row z event.key) of.0 ∙ same_row_laws.refl event.key in
          let sequence : same_row x.event.sequence event.sequence ≡ true = ap (λ z. same_row z event.sequence) same ∙ same_row_laws.refl event.sequence in
          let both : same_moment x.event event ≡ true = λ i. key i && sequence i in
          let wrong : true ≡ false = sym both ∙ rest.0 in
          let none : ⊥ = cc in none),
      absent_is xs event of.1 rest.1,
    )

pub absent_found : (ignore_null : Bool) (parts : List (Row × List Entry)) (event : Event) (es : List Entry) → AreInParts ignore_null parts → IsStrictlySortedBy row_order (map_keys parts)
    → lookup (is_at (row_order event.key)) parts ≡ Some es → standing (all_events parts) event ≡ Fresh → IsAbsent event.sequence es
absent_found ignore_null parts event es in_parts sorted is fresh =
    absent_is es event (own_found event.key parts es in_parts.by_key is) (sym (stands_found parts event es in_parts.by_key sorted is) ∙ fresh)

-- ---- histories that change

some_of : {A : Type 0} (x y : A) → Some x ≡ Some y → x ≡ y
some_of x y e = cc

each_found_by : (ignore_null : Bool) (key : Row) (p : Row × List Entry) (ps : List (Row × List Entry)) (es : List Entry) (b : Bool) → IsHistory ignore_null p.1
    → cond b (Some p.1) (lookup (is_at (row_order key)) ps) ≡ Some es → (lookup (is_at (row_order key)) ps ≡ Some es → IsHistory ignore_null es) → IsHistory ignore_null es
each_found_by ignore_null key p ps es true mine is later = subst (IsHistory ignore_null) (some_of p.1 es is) mine
each_found_by ignore_null key p ps es false mine is later = later is

pub each_found : (ignore_null : Bool) (key : Row) (parts : List (Row × List Entry)) (es : List Entry) → AreHistories ignore_null parts → lookup (is_at (row_order key)) parts ≡ Some es → IsHistory ignore_null es
each_found ignore_null key [] es each is = cc
each_found ignore_null key (p ∷ ps) es each is = each_found_by ignore_null key p ps es (same_row key p.0) each.0 is (λ later. each_found ignore_null key ps es each.1 later)

each_set_by : (ignore_null : Bool) (p : Row × List Entry) (ps more : List (Row × List Entry)) (w : List Entry) (b : Bool) → AreHistories ignore_null (p ∷ ps) → IsHistory ignore_null w → AreHistories ignore_null more
    → AreHistories ignore_null (cond b ((p.0, w) ∷ ps) (p ∷ more))
each_set_by ignore_null p ps more w true each mine later = (mine, each.1)
each_set_by ignore_null p ps more w false each mine later = (each.0, later)

each_set : (ignore_null : Bool) (key : Row) (parts : List (Row × List Entry)) (w : List Entry) → AreHistories ignore_null parts → IsHistory ignore_null w
    → AreHistories ignore_null (set_value (is_at (row_order key)) parts w)
each_set ignore_null key [] w each mine = tt
each_set ignore_null key (p ∷ ps) w each mine = each_set_by ignore_null p ps (set_value (is_at (row_order key)) ps w) w (same_row key p.0) each mine (each_set ignore_null key ps w each.1 mine)

pub no_events : (ignore_null : Bool) → IsHistory ignore_null []
no_events ignore_null = record { order = tt; cached = tt; keyed = tt }

each_either : (ignore_null : Bool) (key : Row) (p : Row × List Entry) (ps more : List (Row × List Entry)) (o : Ordering) → AreHistories ignore_null (p ∷ ps) → AreHistories ignore_null more
    → AreHistories ignore_null (match_ordering o ((key, []) ∷ p ∷ ps) ((p.0, []) ∷ ps) (p ∷ more))
each_either ignore_null key p ps more Less each later = (no_events ignore_null, each)
each_either ignore_null key p ps more Equal each later = (no_events ignore_null, each.1)
each_either ignore_null key p ps more Greater each later = (each.0, later)

each_insert : (ignore_null : Bool) (key : Row) (parts : List (Row × List Entry)) → AreHistories ignore_null parts → AreHistories ignore_null (insert_entry row_order parts key [])
each_insert ignore_null key [] each = (no_events ignore_null, tt)
each_insert ignore_null key (p ∷ ps) each = each_either ignore_null key p ps (insert_entry row_order ps key []) (row_order key p.0) each (each_insert ignore_null key ps each.1)

-- a history without events is one
pub parts_insert : (ignore_null : Bool) (key : Row) (parts : List (Row × List Entry)) → AreInParts ignore_null parts → AreInParts ignore_null (insert_entry row_order parts key [])
parts_insert ignore_null key parts in_parts = record { by_key = keyed_insert key parts in_parts.by_key; each = each_insert ignore_null key parts in_parts.each }

-- ---- the events of a history with one more

abbrev AreOfKey : Row → List Event → Type 0
AreOfKey key [] = Unit {0}
AreOfKey key (event ∷ events) = (event.key ≡ key) × AreOfKey key events

of_entries : (key : Row) (entries : List Entry) → AreOf key entries → AreOfKey key (events_of entries)
of_entries key [] of = tt
of_entries key (x ∷ xs) of = (of.0, of_entries key xs of.1)

to_entries : (key : Row) (entries : List Entry) → AreOfKey key (events_of entries) → AreOf key entries
to_entries key [] of = tt
to_entries key (x ∷ xs) of = (of.0, to_entries key xs of.1)

of_placed_by : (event x : Event) (xs more : List Event) (b : Bool) → AreOfKey event.key (x ∷ xs) → AreOfKey event.key more → AreOfKey event.key (if b then x ∷ more else event ∷ x ∷ xs)
of_placed_by event x xs more true of later = (of.0, later)
of_placed_by event x xs more false of later = (refl, of)

of_placed : (event : Event) (events : List Event) → AreOfKey event.key events → AreOfKey event.key (placed_by history_order event events)
of_placed event [] of = (refl, tt)
of_placed event (x ∷ xs) of = of_placed_by event x xs (placed_by history_order event xs) (is_gt (history_order event x)) of (of_placed event xs of.1)

keyed_placed_by : (event x : Event) (xs more : List Event) (b : Bool) → is_truncate event ≡ false → AreKeyed (x ∷ xs) → AreKeyed more → AreKeyed (if b then x ∷ more else event ∷ x ∷ xs)
keyed_placed_by event x xs more true mine keyed later = (keyed.0, later)
keyed_placed_by event x xs more false mine keyed later = (mine, keyed)

keyed_placed : (event : Event) (events : List Event) → is_truncate event ≡ false → AreKeyed events → AreKeyed (placed_by history_order event events)
keyed_placed event [] mine keyed = (mine, tt)
keyed_placed event (x ∷ xs) mine keyed = keyed_placed_by event x xs (placed_by history_order event xs) (is_gt (history_order event x)) mine keyed (keyed_placed event xs mine keyed.1)

entries_placed_by : (entry x : Entry) (xs more : List Entry) (events : List Event) (b : Bool) → events_of more ≡ events
    → events_of (if b then x ∷ more else entry ∷ x ∷ xs) ≡ (if b then x.event ∷ events else entry.event ∷ x.event ∷ events_of xs)
entries_placed_by entry x xs more events true later = ap (λ ys. x.event ∷ ys) later
entries_placed_by entry x xs more events false later = refl

entries_placed : (entry : Entry) (entries : List Entry) → events_of (entry_placed entry entries) ≡ placed_by history_order entry.event (events_of entries)
entries_placed entry [] = refl
entries_placed entry (x ∷ xs) =
    entries_placed_by entry x xs (entry_placed entry xs) (placed_by history_order entry.event (events_of xs)) (is_gt (history_order entry.event x.event)) (entries_placed entry xs)

set_same_by : (p : Row × List Entry) (ps left right : List (Row × List Entry)) (a b : List Entry) (test : Bool) → events_of a ≡ events_of b → all_events left ≡ all_events right
    → all_events (cond test ((p.0, a) ∷ ps) (p ∷ left)) ≡ all_events (cond test ((p.0, b) ∷ ps) (p ∷ right))
set_same_by p ps left right a b true same later = ap (λ events. events ++ all_events ps) same
set_same_by p ps left right a b false same later = ap (λ events. events_of p.1 ++ events) later

set_same : (key : Row) (parts : List (Row × List Entry)) (a b : List Entry) → events_of a ≡ events_of b
    → all_events (set_value (is_at (row_order key)) parts a) ≡ all_events (set_value (is_at (row_order key)) parts b)
set_same key [] a b same = refl
set_same key (p ∷ ps) a b same =
    set_same_by p ps (set_value (is_at (row_order key)) ps a) (set_value (is_at (row_order key)) ps b) a b (same_row key p.0) same (set_same key ps a b same)

-- what an event makes of the histories, where it is put into the history of its key
pub record IsPut (ignore_null : Bool) (tracked : List ℕ) (event : Event) (parts fresh : List (Row × List Entry)) (es new : List Entry) : Type 0 where
  pub in_parts : AreInParts ignore_null fresh
  pub kept : all_events fresh ≡ placed_by event_order event (all_events parts)
  pub change : net_change (key_rows ignore_null tracked (events_of es)) (key_rows ignore_null tracked (events_of new)) ≡ net_change (scd2 ignore_null tracked (all_events parts)) (scd2 ignore_null tracked (all_events fresh))

pub is_put : (ignore_null : Bool) (tracked : List ℕ) (event : Event) (parts fresh : List (Row × List Entry)) (es new : List Entry) → AreInParts ignore_null parts → IsStrictlySortedBy row_order (map_keys parts)
    → lookup (is_at (row_order event.key)) parts ≡ Some es → is_truncate event ≡ false
    → events_of new ≡ placed_by history_order event (events_of es) → IsCached ignore_null new → AreAscending new
    → fresh ≡ set_value (is_at (row_order event.key)) parts new
    → IsPut ignore_null tracked event parts fresh es new
is_put ignore_null tracked event parts fresh es new in_parts sorted is keyed placed cached order set =
    let of : AreOf event.key new =
    to_entries event.key new (subst (AreOfKey event.key) (sym placed) (of_placed event (events_of es) (of_entries event.key es (own_found event.key parts es in_parts.by_key is)))) in
    let mine : IsHistory ignore_null new =
    record {
      order = order;
      cached = cached;
      keyed = subst AreKeyed (sym placed) (keyed_placed event (events_of es) keyed (each_found ignore_null event.key parts es in_parts.each is).keyed);
    } in
    let after : List (Row × List Entry) = set_value (is_at (row_order event.key)) parts new in
    let in_after : AreInParts ignore_null after =
    record { by_key = keyed_set event.key parts new in_parts.by_key of; each = each_set ignore_null event.key parts new in_parts.each mine } in
    let one : Entry = record { event = event; effective = [] } in
    let sorted_after : IsStrictlySortedBy row_order (map_keys after) = subst (IsStrictlySortedBy row_order) (sym (keys-set_value (is_at (row_order event.key)) parts new)) sorted in
    record {
      in_parts = subst (AreInParts ignore_null) (sym set) in_after;
      kept = ap all_events set ∙ set_same event.key parts new (entry_placed one es) (placed ∙ sym (entries_placed one es)) ∙ events_put Fresh event parts es in_parts.by_key sorted is;
      change = sym (one_history ignore_null tracked event.key parts es new is in_parts sorted in_after sorted_after)
          ∙ ap (λ ps. net_change (scd2 ignore_null tracked (all_events parts)) (scd2 ignore_null tracked (all_events ps))) (sym set);
    }

-- the history of a key, as the model has it, is the one that is kept
pub history_found : (ignore_null : Bool) (key : Row) (parts : List (Row × List Entry)) (es : List Entry) → AreInParts ignore_null parts → IsStrictlySortedBy row_order (map_keys parts)
    → lookup (is_at (row_order key)) parts ≡ Some es → history key (all_events parts) ≡ events_of es
history_found ignore_null key parts es in_parts sorted is =
    history_is key (all_events parts) (keyed_all ignore_null parts in_parts.each)
    ∙ ap (sorted_by history_order) (found key parts es in_parts.by_key sorted is)
    ∙ sorted_is es (each_found ignore_null key parts es in_parts.each is).order

-- a history that is written as it was
pub parts_same : (ignore_null : Bool) (key : Row) (parts fresh : List (Row × List Entry)) (es : List Entry) → AreInParts ignore_null parts → lookup (is_at (row_order key)) parts ≡ Some es
    → fresh ≡ set_value (is_at (row_order key)) parts es → AreInParts ignore_null fresh
parts_same ignore_null key parts fresh es in_parts is set =
    subst (AreInParts ignore_null) (sym set)
    (record {
      by_key = keyed_set key parts es in_parts.by_key (own_found key parts es in_parts.by_key is);
      each = each_set ignore_null key parts es in_parts.each (each_found ignore_null key parts es in_parts.each is);
    })

pub looks_in : (after before h : ℕ) (ignore_null : Bool) (tracked : List ℕ) (event : Event) (parts : List (Row × List Entry)) (es : List Entry) → AreInParts ignore_null parts
    → IsStrictlySortedBy row_order (map_keys parts) → lookup (is_at (row_order event.key)) parts ≡ Some es → length (of_key event.key (all_events parts)) < 2 ^ h
    → (length es < 2 ^ h → after ≤ before + 2 * h + 2 * touched ignore_null tracked (events_of es) event + 8)
    → after ≤ before + (2 * h + 2 * touched ignore_null tracked (history event.key (all_events parts)) event + 8)
looks_in after before h ignore_null tracked event parts es in_parts sorted is small given =
    subst (λ mine. after ≤ before + (2 * h + 2 * touched ignore_null tracked mine event + 8)) (sym (history_found ignore_null event.key parts es in_parts sorted is))
    (grouped (touched ignore_null tracked (events_of es) event) (given (looks_found event.key parts es (all_events parts) h in_parts.by_key sorted is refl small)))
  where
    grouped : (t : ℕ) → after ≤ before + 2 * h + 2 * t + 8 → after ≤ before + (2 * h + 2 * t + 8)
    grouped t e = omega arith

pub on_err : {A E : Type 0} (r : Result A E) (P : Type 0) → P → OnErr r P
on_err (Ok x) P p = tt
on_err (Err e) P p = p
