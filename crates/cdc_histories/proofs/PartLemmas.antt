-- The rows of SCD type 2 of events that stand in histories, key by key.
use Rattle.std.proofs.Common.{◌≡◌, ℕ, Bool, true, false, cond, ◌||◌, if◌then◌else◌, List, [], ◌∷◌, ◌++◌, Option, Some, None, refl, sym, ap, ◌∙◌, append_assoc}
use Rattle.std.specs.Prelude.{filter, filter_map, flat_map}
use Rattle.std.specs.List.{AllByRecursion, cons_option, list_any}
use Rattle.std.specs.List.Sorted.{IsStrictlySortedBy}
use Rattle.std.specs.Map.{keys_of as map_keys, lookup, set_value}
use Rattle.std.specs.BTreeMap.{is_at}
use Rattle.std.specs.declared.cmp.Ordering.TheVariants.{Less}
use Rattle.std.specs.Ordering.{is_eq, is_gt, nat_cmp, ordering_then}
use Rattle.std.proofs.lemmas.List.{append-nil}
use Rattle.value_core.specs.declared.event.Event.{Event}
use Rattle.value_core.specs.Bags.{in_row_order, net_change}
use Rattle.value_core.specs.EventOrder.{history_order, is_truncate, kind_rank, placed_by, sorted_by}
use Rattle.value_core.specs.Order.{Row, row_order, same_row}
use Rattle.value_core.specs.OrderLaws.{same_row_laws}
use Rattle.value_core.proofs.BagLemmas.{count-in_row_order}
use Rattle.net_changes.proofs.NetLemmas.{net_same, net_within}
use Rattle.event_history.specs.declared.history.Entry.{Entry}
use Rattle.event_history.specs.Histories.{AllAbove, AreAscending, events_of}
use Rattle.event_ledger.specs.Keyed.{all_events, AreByKey, AreOf, of_key}
use Rattle.flow_model.specs.Current.{distinct, history}
use Rattle.flow_model.specs.History.{key_rows, scd2}
use Rattle.cdc_scd2.specs.Keys.{AreKeyed}
use Rattle.cdc_histories.specs.Keeping.{AreHistories, AreInParts, rows_by_key}

-- ---- the events of one key

rest_sorted : (p : Row × List Entry) (ps : List (Row × List Entry)) → IsStrictlySortedBy row_order (map_keys (p ∷ ps)) → IsStrictlySortedBy row_order (map_keys ps)
unfolding IsStrictlySortedBy
rest_sorted p ps sorted = sorted.1

above_first : (p : Row × List Entry) (ps : List (Row × List Entry)) → IsStrictlySortedBy row_order (map_keys (p ∷ ps)) → AllByRecursion (λ k. row_order p.0 k ≡ Less) (map_keys ps)
unfolding IsStrictlySortedBy
above_first p ps sorted = sorted.0

own : (key k : Row) (entries : List Entry) (rest : List Event) → AreOf k entries → same_row k key ≡ true → of_key key (events_of entries ++ rest) ≡ events_of entries ++ of_key key rest
own key k [] rest of e = refl
own key k (x ∷ xs) rest of e =
    let t : same_row x.event.key key ≡ true = ap (λ z. same_row z key) of.0 ∙ e in rw t (ap (λ events. x.event ∷ events) (own key k xs rest of.1 e))

other : (key k : Row) (entries : List Entry) (rest : List Event) → AreOf k entries → same_row k key ≡ false → of_key key (events_of entries ++ rest) ≡ of_key key rest
other key k [] rest of e = refl
other key k (x ∷ xs) rest of e =
    let t : same_row x.event.key key ≡ false = ap (λ z. same_row z key) of.0 ∙ e in rw t (other key k xs rest of.1 e)

apart : (a b : Row) → row_order a b ≡ Less → same_row a b ≡ false
apart a b e = ap is_eq e

apart_back : (a b : Row) → row_order a b ≡ Less → same_row b a ≡ false
apart_back a b e = same_row_laws.symm b a ∙ ap is_eq e

none_above : (key : Row) (parts : List (Row × List Entry)) → AreByKey parts → AllByRecursion (λ k. row_order key k ≡ Less) (map_keys parts) → of_key key (all_events parts) ≡ []
none_above key [] keyed above = refl
none_above key (p ∷ ps) keyed above = other key p.0 p.1 (all_events ps) keyed.0 (apart_back key p.0 above.0) ∙ none_above key ps keyed.1 above.1

-- ---- a history in order

before : (a b : Event) → row_order a.sequence b.sequence ≡ Less → is_gt (history_order a b) ≡ false
before a b e = ap (λ o. is_gt (ordering_then o (nat_cmp (kind_rank a.kind) (kind_rank b.kind)))) e

front : (x : Entry) (xs : List Entry) → AllAbove x.event.sequence xs → placed_by history_order x.event (events_of xs) ≡ x.event ∷ events_of xs
front x [] above = refl
front x (y ∷ ys) above = rw (before x.event y.event above.0) refl

pub sorted_is : (entries : List Entry) → AreAscending entries → sorted_by history_order (events_of entries) ≡ events_of entries
sorted_is [] order = refl
sorted_is (x ∷ xs) order = ap (placed_by history_order x.event) (sorted_is xs order.1) ∙ front x xs order.0

-- without truncates the history of a key is of its own events
filter_is : (key : Row) (events : List Event) → AreKeyed events → filter (λ event. is_truncate event || same_row event.key key) events ≡ of_key key events
filter_is key [] keyed = refl
filter_is key (event ∷ events) keyed =
    λ i. cond (keyed.0 i || same_row event.key key) (event ∷ filter_is key events keyed.1 i) (filter_is key events keyed.1 i)

pub history_is : (key : Row) (events : List Event) → AreKeyed events → history key events ≡ sorted_by history_order (of_key key events)
history_is key events keyed = ap (sorted_by history_order) (filter_is key events keyed)

keyed_append : (events more : List Event) → AreKeyed events → AreKeyed more → AreKeyed (events ++ more)
keyed_append [] more keyed later = later
keyed_append (event ∷ events) more keyed later = (keyed.0, keyed_append events more keyed.1 later)

pub keyed_all : (ignore_null : Bool) (parts : List (Row × List Entry)) → AreHistories ignore_null parts → AreKeyed (all_events parts)
keyed_all ignore_null [] each = tt
keyed_all ignore_null (p ∷ ps) each = keyed_append (events_of p.1) (all_events ps) each.0.keyed (keyed_all ignore_null ps each.1)

-- ---- the rows of each key

abbrev told : Bool → List ℕ → List Event → Row → List Row
told ignore_null tracked events key = key_rows ignore_null tracked (sorted_by history_order (of_key key events))

abbrev Tells : Bool → List ℕ → (Row → List Row) → List (Row × List Entry) → Type 0
Tells ignore_null tracked f [] = Unit {0}
Tells ignore_null tracked f (p ∷ ps) = (f p.0 ≡ key_rows ignore_null tracked (events_of p.1)) × Tells ignore_null tracked f ps

tells_more : (ignore_null : Bool) (tracked : List ℕ) (k : Row) (es : List Entry) (events : List Event) (qs : List (Row × List Entry)) → AreOf k es
    → AllByRecursion (λ q. row_order k q ≡ Less) (map_keys qs) → Tells ignore_null tracked (told ignore_null tracked events) qs → Tells ignore_null tracked (told ignore_null tracked (events_of es ++ events)) qs
tells_more ignore_null tracked k es events [] of above tells = tt
tells_more ignore_null tracked k es events (q ∷ qs) of above tells = (
  ap (λ mine. key_rows ignore_null tracked (sorted_by history_order mine)) (other q.0 k es events of (apart k q.0 above.0)) ∙ tells.0,
  tells_more ignore_null tracked k es events qs of above.1 tells.1,
)

tells_all : (ignore_null : Bool) (tracked : List ℕ) (parts : List (Row × List Entry)) → AreByKey parts → AreHistories ignore_null parts → IsStrictlySortedBy row_order (map_keys parts)
    → Tells ignore_null tracked (told ignore_null tracked (all_events parts)) parts
tells_all ignore_null tracked [] keyed each sorted = tt
tells_all ignore_null tracked (p ∷ ps) keyed each sorted =
    let above = above_first p ps sorted in
    let mine : of_key p.0 (events_of p.1 ++ all_events ps) ≡ events_of p.1 =
    own p.0 p.0 p.1 (all_events ps) keyed.0 (same_row_laws.refl p.0) ∙ ap (λ events. events_of p.1 ++ events) (none_above p.0 ps keyed.1 above) ∙ append-nil (events_of p.1) in (
      ap (λ events. key_rows ignore_null tracked (sorted_by history_order events)) mine ∙ ap (key_rows ignore_null tracked) (sorted_is p.1 each.0.order),
      tells_more ignore_null tracked p.0 p.1 (all_events ps) ps keyed.0 above (tells_all ignore_null tracked ps keyed.1 each.1 (rest_sorted p ps sorted)),
    )

tells_by : (ignore_null : Bool) (tracked : List ℕ) (f g : Row → List Row) (qs : List (Row × List Entry)) → ((key : Row) → g key ≡ f key) → Tells ignore_null tracked f qs → Tells ignore_null tracked g qs
tells_by ignore_null tracked f g [] same tells = tt
tells_by ignore_null tracked f g (q ∷ qs) same tells = (same q.0 ∙ tells.0, tells_by ignore_null tracked f g qs same tells.1)

-- ---- the keys, each once

abbrev pub key_of : Event → Option Row
key_of event = if is_truncate event then None else Some event.key

abbrev pub keys_in : List Event → List Row
keys_in events = filter_map key_of events

pub key_there : (k : Row) (event : Event) (events : List Event) → is_truncate event ≡ false → event.key ≡ k → keys_in (event ∷ events) ≡ k ∷ keys_in events
key_there k event events e is = ap (λ test. cons_option (if test then None else Some event.key) (keys_in events)) e ∙ ap (λ z. z ∷ keys_in events) is

none_more : (k q : Row) (es : List Entry) (events : List Event) → AreOf q es → AreKeyed (events_of es) → same_row k q ≡ false → list_any (same_row k) (keys_in events) ≡ false
    → list_any (same_row k) (keys_in (events_of es ++ events)) ≡ false
none_more k q [] events of keyed e none = none
none_more k q (x ∷ xs) events of keyed e none =
    ap (list_any (same_row k)) (key_there q x.event (events_of xs ++ events) keyed.0 of.0) ∙ (λ i. e i || none_more k q xs events of.1 keyed.1 e none i)

none_in : (ignore_null : Bool) (k : Row) (parts : List (Row × List Entry)) → AreByKey parts → AreHistories ignore_null parts → AllByRecursion (λ q. row_order k q ≡ Less) (map_keys parts)
    → list_any (same_row k) (keys_in (all_events parts)) ≡ false
none_in ignore_null k [] keyed each above = refl
none_in ignore_null k (p ∷ ps) keyed each above =
    none_more k p.0 p.1 (all_events ps) keyed.0 each.0.keyed (apart k p.0 above.0) (none_in ignore_null k ps keyed.1 each.1 above.1)

spread_some : (f : Row → List Row) (k : Row) (x : Entry) (xs : List Entry) (events : List Event) → AreOf k (x ∷ xs) → AreKeyed (events_of (x ∷ xs)) → list_any (same_row k) (keys_in events) ≡ false
    → flat_map f (distinct (keys_in (events_of (x ∷ xs) ++ events))) ≡ f k ++ flat_map f (distinct (keys_in events))
spread_some f k x [] events of keyed none =
    ap (λ keys. flat_map f (distinct keys)) (key_there k x.event events keyed.0 of.0)
    ∙ ap (λ test. flat_map f (if test then distinct (keys_in events) else k ∷ distinct (keys_in events))) none
spread_some f k x (y ∷ ys) events of keyed none =
    let more = keys_in (events_of (y ∷ ys) ++ events) in
    let again : list_any (same_row k) more ≡ true =
    ap (list_any (same_row k)) (key_there k y.event (events_of ys ++ events) keyed.1.0 of.1.0) ∙ (λ i. same_row_laws.refl k i || list_any (same_row k) (keys_in (events_of ys ++ events))) in
    ap (λ keys. flat_map f (distinct keys)) (key_there k x.event (events_of (y ∷ ys) ++ events) keyed.0 of.0)
    ∙ ap (λ test. flat_map f (if test then distinct more else k ∷ distinct more)) again
    ∙ spread_some f k y ys events of.1 keyed.1 none

spread : (ignore_null : Bool) (tracked : List ℕ) (f : Row → List Row) (k : Row) (es : List Entry) (events : List Event) → AreOf k es → AreKeyed (events_of es) → list_any (same_row k) (keys_in events) ≡ false
    → f k ≡ key_rows ignore_null tracked (events_of es)
    → flat_map f (distinct (keys_in (events_of es ++ events))) ≡ key_rows ignore_null tracked (events_of es) ++ flat_map f (distinct (keys_in events))
spread ignore_null tracked f k [] events of keyed none is = refl
spread ignore_null tracked f k (x ∷ xs) events of keyed none is = spread_some f k x xs events of keyed none ∙ ap (λ rows. rows ++ flat_map f (distinct (keys_in events))) is

whole : (ignore_null : Bool) (tracked : List ℕ) (f : Row → List Row) (parts : List (Row × List Entry)) → AreByKey parts → AreHistories ignore_null parts → IsStrictlySortedBy row_order (map_keys parts)
    → Tells ignore_null tracked f parts → flat_map f (distinct (keys_in (all_events parts))) ≡ rows_by_key ignore_null tracked parts
whole ignore_null tracked f [] keyed each sorted tells = refl
whole ignore_null tracked f (p ∷ ps) keyed each sorted tells =
    spread ignore_null tracked f p.0 p.1 (all_events ps) keyed.0 each.0.keyed (none_in ignore_null p.0 ps keyed.1 each.1 (above_first p ps sorted)) tells.0
    ∙ ap (λ rows. key_rows ignore_null tracked (events_of p.1) ++ rows) (whole ignore_null tracked f ps keyed.1 each.1 (rest_sorted p ps sorted) tells.1)

-- the rows of SCD type 2 are those of the histories
pub scd2_is : (ignore_null : Bool) (tracked : List ℕ) (parts : List (Row × List Entry)) → AreInParts ignore_null parts → IsStrictlySortedBy row_order (map_keys parts)
    → scd2 ignore_null tracked (all_events parts) ≡ in_row_order (rows_by_key ignore_null tracked parts)
scd2_is ignore_null tracked parts in_parts sorted =
    ap in_row_order
    (whole ignore_null tracked (λ key. key_rows ignore_null tracked (history key (all_events parts))) parts in_parts.by_key in_parts.each sorted
    (tells_by ignore_null tracked (told ignore_null tracked (all_events parts)) (λ key. key_rows ignore_null tracked (history key (all_events parts))) parts
    (λ key. ap (key_rows ignore_null tracked) (history_is key (all_events parts) (keyed_all ignore_null parts in_parts.each)))
    (tells_all ignore_null tracked parts in_parts.by_key in_parts.each sorted)))

-- ---- one history in the place of another

some_of : {A : Type 0} (x y : A) → Some x ≡ Some y → x ≡ y
some_of x y e = cc

record Lies (ignore_null : Bool) (tracked : List ℕ) (old fresh : List (Row × List Entry)) (es new : List Entry) : Type 0 where
  before : List Row
  behind : List Row
  was : rows_by_key ignore_null tracked old ≡ before ++ (key_rows ignore_null tracked (events_of es) ++ behind)
  is : rows_by_key ignore_null tracked fresh ≡ before ++ (key_rows ignore_null tracked (events_of new) ++ behind)

lies_by : (ignore_null : Bool) (tracked : List ℕ) (key : Row) (p : Row × List Entry) (ps more : List (Row × List Entry)) (es new : List Entry) (b : Bool)
    → cond b (Some p.1) (lookup (is_at (row_order key)) ps) ≡ Some es → (lookup (is_at (row_order key)) ps ≡ Some es → Lies ignore_null tracked ps more es new)
    → Lies ignore_null tracked (p ∷ ps) (cond b ((p.0, new) ∷ ps) (p ∷ more)) es new
lies_by ignore_null tracked key p ps more es new true found later =
    record {
      before = [];
      behind = rows_by_key ignore_null tracked ps;
      was = ap (λ entries. key_rows ignore_null tracked (events_of entries) ++ rows_by_key ignore_null tracked ps) (some_of p.1 es found);
      is = refl;
    }
lies_by ignore_null tracked key p ps more es new false found later =
    let rest : Lies ignore_null tracked ps more es new = later found in
    let mine : List Row = key_rows ignore_null tracked (events_of p.1) in
    record {
      before = mine ++ rest.before;
      behind = rest.behind;
      was = ap (λ rows. mine ++ rows) rest.was ∙ sym (append_assoc mine rest.before (key_rows ignore_null tracked (events_of es) ++ rest.behind));
      is = ap (λ rows. mine ++ rows) rest.is ∙ sym (append_assoc mine rest.before (key_rows ignore_null tracked (events_of new) ++ rest.behind));
    }

lies : (ignore_null : Bool) (tracked : List ℕ) (key : Row) (parts : List (Row × List Entry)) (es new : List Entry) → lookup (is_at (row_order key)) parts ≡ Some es
    → Lies ignore_null tracked parts (set_value (is_at (row_order key)) parts new) es new
lies ignore_null tracked key [] es new found = absurd (let none : ⊥ = cc in none)
lies ignore_null tracked key (p ∷ ps) es new found =
    lies_by ignore_null tracked key p ps (set_value (is_at (row_order key)) ps new) es new (same_row key p.0) found (λ later. lies ignore_null tracked key ps es new later)

in_order : (old new : List Row) → net_change (in_row_order old) (in_row_order new) ≡ net_change old new
in_order old new = net_same old new (in_row_order old) (in_row_order new) (λ row. count-in_row_order row old) (λ row. count-in_row_order row new)

lies_net : (ignore_null : Bool) (tracked : List ℕ) (old fresh : List (Row × List Entry)) (es new : List Entry) → Lies ignore_null tracked old fresh es new
    → net_change (rows_by_key ignore_null tracked old) (rows_by_key ignore_null tracked fresh) ≡ net_change (key_rows ignore_null tracked (events_of es)) (key_rows ignore_null tracked (events_of new))
lies_net ignore_null tracked old fresh es new l =
    (λ i. net_change (l.was i) (l.is i)) ∙ net_within l.before (key_rows ignore_null tracked (events_of es)) (key_rows ignore_null tracked (events_of new)) l.behind

-- with one history in the place of another the rows change as that key's do
pub one_history : (ignore_null : Bool) (tracked : List ℕ) (key : Row) (parts : List (Row × List Entry)) (es new : List Entry) → lookup (is_at (row_order key)) parts ≡ Some es
    → AreInParts ignore_null parts → IsStrictlySortedBy row_order (map_keys parts)
    → AreInParts ignore_null (set_value (is_at (row_order key)) parts new) → IsStrictlySortedBy row_order (map_keys (set_value (is_at (row_order key)) parts new))
    → net_change (scd2 ignore_null tracked (all_events parts)) (scd2 ignore_null tracked (all_events (set_value (is_at (row_order key)) parts new)))
    ≡ net_change (key_rows ignore_null tracked (events_of es)) (key_rows ignore_null tracked (events_of new))
one_history ignore_null tracked key parts es new found old old_sorted fresh fresh_sorted =
    (λ i. net_change (scd2_is ignore_null tracked parts old old_sorted i) (scd2_is ignore_null tracked (set_value (is_at (row_order key)) parts new) fresh fresh_sorted i))
    ∙ in_order (rows_by_key ignore_null tracked parts) (rows_by_key ignore_null tracked (set_value (is_at (row_order key)) parts new))
    ∙ lies_net ignore_null tracked parts (set_value (is_at (row_order key)) parts new) es new (lies ignore_null tracked key parts es new found)
