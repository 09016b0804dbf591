-- The events of all keys, and those of one.
use Rattle.std.proofs.Common.{◌≡◌, ◌<◌, ◌^◌, ℕ, suc, Bool, true, false, cond, if◌then◌else◌, List, [], ◌∷◌, ◌++◌, length, Option, Some, None, is_some, refl, sym, ap, ◌∙◌, subst}
use Rattle.std.specs.declared.cmp.Ordering.{Ordering}
use Rattle.std.specs.declared.cmp.Ordering.TheVariants.{Less, Equal, Greater}
use Rattle.std.specs.Ordering.{is_eq, is_gt, match_ordering, ordering_then}
use Rattle.std.specs.List.{AllByRecursion}
use Rattle.std.specs.List.Sorted.{IsStrictlySortedBy}
use Rattle.std.specs.Map.{keys_of, lookup, set_value}
use Rattle.std.specs.BTreeMap.{insert_entry, is_at}
use Rattle.std.proofs.lemmas.List.{append-nil}
use Rattle.std.proofs.lemmas.Map.{NonePasses, lookup-none, none_passes_from_lookup}
use Rattle.std.proofs.lemmas.Map.Entries.{none_past_head, none_below_head}
use Rattle.std.proofs.lemmas.Map.Keys.{IsDistinct-from_sorted}
use Rattle.value_core.specs.declared.event.Event.{Event}
use Rattle.value_core.specs.Order.{Row, row_order, same_row}
use Rattle.value_core.specs.OrderLaws.{row_order_total, rows_apart, same_row_laws}
use Rattle.value_core.specs.EventOrder.{Standing, Fresh, Repeat, Tied, event_order, history_order, placed_by, same_event, same_moment, standing}
use Rattle.event_history.specs.declared.history.Entry.{Entry}
use Rattle.event_history.specs.Histories.{events_of}
use Rattle.event_ledger.specs.Keyed.{all_events, AreOf, AreByKey, events_after, of_key}
use Rattle.event_ledger.specs.Spots.{entries_after, entry_placed}

-- ---- how an event stands is told by the events of its key

stands_by : (kept event : Event) (more rest : List Event) (b : Bool) → same_row kept.key event.key ≡ b → standing more event ≡ standing rest event
    → standing (kept ∷ more) event ≡ standing (cond b (kept ∷ rest) rest) event
stands_by kept event more rest true e same = ap (λ s. if same_moment kept event then (if same_event kept event then Repeat else Tied kept) else s) same
stands_by kept event more rest false e same = rw e same

stands_in_key : (events : List Event) (event : Event) → standing events event ≡ standing (of_key event.key events) event
stands_in_key [] event = refl
stands_in_key (kept ∷ more) event = stands_by kept event more (of_key event.key more) (same_row kept.key event.key) refl (stands_in_key more event)

-- ---- the events of one key

equal_by : (o : Ordering) → is_eq o ≡ true → o ≡ Equal
equal_by Less e = cc
equal_by Equal e = refl
equal_by Greater e = cc

own : (key k : Row) (entries : List Entry) (rest : List Event) → AreOf k entries → same_row k key ≡ true → of_key key (events_of entries ++ rest) ≡ events_of entries ++ of_key key rest
own key k [] rest of e = refl
own key k (x ∷ xs) rest of e =
    let t : same_row x.event.key key ≡ true = ap (λ z. same_row z key) of.0 ∙ e in rw t (ap (λ events. x.event ∷ events) (own key k xs rest of.1 e))

other : (key k : Row) (entries : List Entry) (rest : List Event) → AreOf k entries → same_row k key ≡ false → of_key key (events_of entries ++ rest) ≡ of_key key rest
other key k [] rest of e = refl
other key k (x ∷ xs) rest of e =
    let t : same_row x.event.key key ≡ false = ap (λ z. same_row z key) of.0 ∙ e in rw t (other key k xs rest of.1 e)

none : (key : Row) (parts : List (Row × List Entry)) → AreByKey parts → NonePasses (is_at (row_order key)) parts → of_key key (all_events parts) ≡ []
none key [] keyed apart = refl
none key (p ∷ ps) keyed apart = other key p.0 p.1 (all_events ps) keyed.0 (same_row_laws.symm p.0 key ∙ apart.0) ∙ none key ps keyed.1 apart.1

-- keys rise behind the first
rest_sorted : (p : Row × List Entry) (ps : List (Row × List Entry)) → IsStrictlySortedBy row_order (keys_of (p ∷ ps)) → IsStrictlySortedBy row_order (keys_of ps)
unfolding IsStrictlySortedBy
rest_sorted p ps sorted = sorted.1

above_first : (p : Row × List Entry) (ps : List (Row × List Entry)) → IsStrictlySortedBy row_order (keys_of (p ∷ ps)) → AllByRecursion (λ k. row_order p.0 k ≡ Less) (keys_of ps)
unfolding IsStrictlySortedBy
above_first p ps sorted = sorted.0

some_of : {A : Type 0} (x y : A) → Some x ≡ Some y → x ≡ y
some_of x y e = cc

found_by : (key : Row) (p : Row × List Entry) (ps : List (Row × List Entry)) (es : List Entry) (b : Bool) → AreByKey (p ∷ ps) → IsStrictlySortedBy row_order (keys_of (p ∷ ps))
    → same_row key p.0 ≡ b → cond b (Some p.1) (lookup (is_at (row_order key)) ps) ≡ Some es → (lookup (is_at (row_order key)) ps ≡ Some es → of_key key (all_events ps) ≡ events_of es)
    → of_key key (all_events (p ∷ ps)) ≡ events_of es
found_by key p ps es true keyed sorted e is later =
    own key p.0 p.1 (all_events ps) keyed.0 (same_row_laws.symm p.0 key ∙ e)
    ∙ ap (λ events. events_of p.1 ++ events) (none key ps keyed.1 (none_past_head same_row_laws key p ps (IsDistinct-from_sorted row_order (keys_of (p ∷ ps)) sorted) e))
    ∙ append-nil (events_of p.1) ∙ ap events_of (some_of p.1 es is)
found_by key p ps es false keyed sorted e is later = other key p.0 p.1 (all_events ps) keyed.0 (same_row_laws.symm p.0 key ∙ e) ∙ later is

-- the events of a key are those of its history
pub found : (key : Row) (parts : List (Row × List Entry)) (es : List Entry) → AreByKey parts → IsStrictlySortedBy row_order (keys_of parts) → lookup (is_at (row_order key)) parts ≡ Some es
    → of_key key (all_events parts) ≡ events_of es
found key [] es keyed sorted is = cc
found key (p ∷ ps) es keyed sorted is = found_by key p ps es (same_row key p.0) keyed sorted refl is (λ later. found key ps es keyed.1 (rest_sorted p ps sorted) later)

pub stands_found : (parts : List (Row × List Entry)) (event : Event) (es : List Entry) → AreByKey parts → IsStrictlySortedBy row_order (keys_of parts)
    → lookup (is_at (row_order event.key)) parts ≡ Some es → standing (all_events parts) event ≡ standing (events_of es) event
stands_found parts event es keyed sorted is = stands_in_key (all_events parts) event ∙ ap (λ events. standing events event) (found event.key parts es keyed sorted is)

pub stands_alone : (parts : List (Row × List Entry)) (event : Event) → AreByKey parts → lookup (is_at (row_order event.key)) parts ≡ None → standing (all_events parts) event ≡ Fresh
stands_alone parts event keyed is =
    stands_in_key (all_events parts) event ∙ ap (λ events. standing events event) (none event.key parts keyed (none_passes_from_lookup (is_at (row_order event.key)) parts is))

length_events : (es : List Entry) → length (events_of es) ≡ length es
length_events [] = refl
length_events (x ∷ xs) = ap suc (length_events xs)

-- how many events of a key there are
pub length_found : (key : Row) (parts : List (Row × List Entry)) (es : List Entry) → AreByKey parts → IsStrictlySortedBy row_order (keys_of parts)
    → lookup (is_at (row_order key)) parts ≡ Some es → length es ≡ length (of_key key (all_events parts))
length_found key parts es keyed sorted is = sym (ap length (found key parts es keyed sorted is) ∙ length_events es)

pub looks_found : (key : Row) (parts : List (Row × List Entry)) (es : List Entry) (events : List Event) (h : ℕ) → AreByKey parts → IsStrictlySortedBy row_order (keys_of parts)
    → lookup (is_at (row_order key)) parts ≡ Some es → all_events parts ≡ events → length (of_key key events) < 2 ^ h → length es < 2 ^ h
looks_found key parts es events h keyed sorted is view small =
    let P : ℕ → Type 0 = λ n. n < 2 ^ h in subst P (sym (length_found key parts es keyed sorted is ∙ ap (λ ys. length (of_key key ys)) view)) small

pub absent : {A : Type 0} (o : Option A) → is_some o ≡ false → o ≡ None
absent (Some x) e = cc
absent None e = refl

-- ---- histories that change

own_first : (key : Row) (p : Row × List Entry) (es : List Entry) → AreOf p.0 p.1 → same_row key p.0 ≡ true → p.1 ≡ es → AreOf key es
own_first key p es own e is = let P : Row → List Entry → Type 0 = λ k entries. AreOf k entries in subst (P key) is (subst (λ k. AreOf k p.1) (sym (rows_apart key p.0 (equal_by (row_order key p.0) e))) own)

own_by : (key : Row) (p : Row × List Entry) (ps : List (Row × List Entry)) (es : List Entry) (b : Bool) → AreOf p.0 p.1 → same_row key p.0 ≡ b
    → cond b (Some p.1) (lookup (is_at (row_order key)) ps) ≡ Some es → (lookup (is_at (row_order key)) ps ≡ Some es → AreOf key es) → AreOf key es
own_by key p ps es true own e is later = own_first key p es own e (some_of p.1 es is)
own_by key p ps es false own e is later = later is

-- a history that is looked up is of the key
pub own_found : (key : Row) (parts : List (Row × List Entry)) (es : List Entry) → AreByKey parts → lookup (is_at (row_order key)) parts ≡ Some es → AreOf key es
own_found key [] es keyed is = cc
own_found key (p ∷ ps) es keyed is = own_by key p ps es (same_row key p.0) keyed.0 refl is (λ later. own_found key ps es keyed.1 later)

keyed_by : (key : Row) (p : Row × List Entry) (ps more : List (Row × List Entry)) (w : List Entry) (b : Bool) → AreByKey (p ∷ ps) → AreOf key w → same_row key p.0 ≡ b → AreByKey more
    → AreByKey (cond b ((p.0, w) ∷ ps) (p ∷ more))
keyed_by key p ps more w true keyed own e later = (subst (λ k. AreOf k w) (rows_apart key p.0 (equal_by (row_order key p.0) e)) own, keyed.1)
keyed_by key p ps more w false keyed own e later = (keyed.0, later)

pub keyed_set : (key : Row) (parts : List (Row × List Entry)) (w : List Entry) → AreByKey parts → AreOf key w → AreByKey (set_value (is_at (row_order key)) parts w)
keyed_set key [] w keyed own = tt
keyed_set key (p ∷ ps) w keyed own = keyed_by key p ps (set_value (is_at (row_order key)) ps w) w (same_row key p.0) keyed own refl (keyed_set key ps w keyed.1 own)

keyed_either : (key : Row) (p : Row × List Entry) (ps more : List (Row × List Entry)) (o : Ordering) → AreByKey (p ∷ ps) → AreByKey more
    → AreByKey (match_ordering o ((key, []) ∷ p ∷ ps) ((p.0, []) ∷ ps) (p ∷ more))
keyed_either key p ps more Less keyed later = (tt, keyed)
keyed_either key p ps more Equal keyed later = (tt, keyed.1)
keyed_either key p ps more Greater keyed later = (keyed.0, later)

pub keyed_insert : (key : Row) (parts : List (Row × List Entry)) → AreByKey parts → AreByKey (insert_entry row_order parts key [])
keyed_insert key [] keyed = (tt, tt)
keyed_insert key (p ∷ ps) keyed = keyed_either key p ps (insert_entry row_order ps key []) (row_order key p.0) keyed (keyed_insert key ps keyed.1)

events_either : (key : Row) (p : Row × List Entry) (ps more : List (Row × List Entry)) (o : Ordering) → cond (is_eq o) (Some p.1) (lookup (is_at (row_order key)) ps) ≡ None
    → (lookup (is_at (row_order key)) ps ≡ None → all_events more ≡ all_events ps) → all_events (match_ordering o ((key, []) ∷ p ∷ ps) ((p.0, []) ∷ ps) (p ∷ more)) ≡ all_events (p ∷ ps)
events_either key p ps more Less absent later = refl
events_either key p ps more Equal absent later = cc
events_either key p ps more Greater absent later = ap (λ events. events_of p.1 ++ events) (later absent)

-- a history without events adds none
pub events_insert : (key : Row) (parts : List (Row × List Entry)) → lookup (is_at (row_order key)) parts ≡ None → all_events (insert_entry row_order parts key []) ≡ all_events parts
events_insert key [] absent = refl
events_insert key (p ∷ ps) absent = events_either key p ps (insert_entry row_order ps key []) (row_order key p.0) absent (λ later. events_insert key ps later)

same_by : (key : Row) (p : Row × List Entry) (ps more : List (Row × List Entry)) (es : List Entry) (b : Bool) → cond b (Some p.1) (lookup (is_at (row_order key)) ps) ≡ Some es
    → (lookup (is_at (row_order key)) ps ≡ Some es → all_events more ≡ all_events ps) → all_events (cond b ((p.0, es) ∷ ps) (p ∷ more)) ≡ all_events (p ∷ ps)
same_by key p ps more es true is later = ap (λ entries. events_of entries ++ all_events ps) (sym (some_of p.1 es is))
same_by key p ps more es false is later = ap (λ events. events_of p.1 ++ events) (later is)

-- a history that is written as it was changes nothing
pub events_same : (key : Row) (parts : List (Row × List Entry)) (es : List Entry) → lookup (is_at (row_order key)) parts ≡ Some es → all_events (set_value (is_at (row_order key)) parts es) ≡ all_events parts
events_same key [] es is = refl
events_same key (p ∷ ps) es is = same_by key p ps (set_value (is_at (row_order key)) ps es) es (same_row key p.0) is (λ later. events_same key ps es later)

-- ---- a fresh event among all

-- the first of these events, if there is one, isn't below this one
IsAhead : Event → List Event → Type 0
IsAhead event [] = Unit {0}
IsAhead event (y ∷ ys) = is_gt (event_order event y) ≡ false

front : (event : Event) (rest : List Event) → IsAhead event rest → placed_by event_order event rest ≡ event ∷ rest
unfolding IsAhead
front event [] ahead = refl
front event (y ∷ ys) ahead = rw ahead refl

past : (event : Event) (k : Row) (entries : List Entry) (rest : List Event) → AreOf k entries → row_order event.key k ≡ Greater
    → placed_by event_order event (events_of entries ++ rest) ≡ events_of entries ++ placed_by event_order event rest
past event k [] rest of e = refl
past event k (x ∷ xs) rest of e =
    let behind : is_gt (event_order event x.event) ≡ true = ap (λ o. is_gt (ordering_then o (history_order event x.event))) (ap (λ z. row_order event.key z) of.0 ∙ e) in
    rw behind (ap (λ events. x.event ∷ events) (past event k xs rest of.1 e))

abbrev fresh_entry : Event → Entry
fresh_entry event = record { event = event; effective = [] }

placed_by_test : (event : Event) (x : Entry) (xs : List Entry) (rest : List Event) (b : Bool)
    → placed_by event_order event (events_of xs ++ rest) ≡ events_of (entry_placed (fresh_entry event) xs) ++ rest
    → (if b then x.event ∷ placed_by event_order event (events_of xs ++ rest) else event ∷ x.event ∷ (events_of xs ++ rest))
    ≡ events_of (if b then x ∷ entry_placed (fresh_entry event) xs else fresh_entry event ∷ x ∷ xs) ++ rest
placed_by_test event x xs rest true later = ap (λ events. x.event ∷ events) later
placed_by_test event x xs rest false later = refl

-- among events of its own key an event stands by its sequence
within : (event : Event) (entries : List Entry) (rest : List Event) → AreOf event.key entries → IsAhead event rest
    → placed_by event_order event (events_of entries ++ rest) ≡ events_of (entry_placed (fresh_entry event) entries) ++ rest
within event [] rest of ahead = front event rest ahead
within event (x ∷ xs) rest of ahead =
    let key : row_order event.key x.event.key ≡ Equal = equal_by (row_order event.key x.event.key) (ap (λ z. same_row event.key z) of.0 ∙ same_row_laws.refl event.key) in
    let same : event_order event x.event ≡ history_order event x.event = ap (λ o. ordering_then o (history_order event x.event)) key in
    rw same (placed_by_test event x xs rest (is_gt (history_order event x.event)) (within event xs rest of.1 ahead))

ahead_by : (event : Event) (k : Row) (entries : List Entry) (rest : List Event) → AreOf k entries → row_order event.key k ≡ Less → IsAhead event rest → IsAhead event (events_of entries ++ rest)
unfolding IsAhead
ahead_by event k [] rest of e ahead = ahead
ahead_by event k (x ∷ xs) rest of e ahead = ap (λ o. is_gt (ordering_then o (history_order event x.event))) (ap (λ z. row_order event.key z) of.0 ∙ e)

ahead_of : (event : Event) (parts : List (Row × List Entry)) → AreByKey parts → AllByRecursion (λ k. row_order event.key k ≡ Less) (keys_of parts) → IsAhead event (all_events parts)
unfolding IsAhead
ahead_of event [] keyed above = tt
ahead_of event (p ∷ ps) keyed above = ahead_by event p.0 p.1 (all_events ps) keyed.0 above.0 (ahead_of event ps keyed.1 above.1)

placed_first : (event : Event) (p : Row × List Entry) (ps : List (Row × List Entry)) (es : List Entry) → AreByKey (p ∷ ps) → IsStrictlySortedBy row_order (keys_of (p ∷ ps))
    → row_order event.key p.0 ≡ Equal → p.1 ≡ es
    → events_of (entry_placed (fresh_entry event) es) ++ all_events ps ≡ placed_by event_order event (all_events (p ∷ ps))
placed_first event p ps es keyed sorted e is =
    let key : event.key ≡ p.0 = rows_apart event.key p.0 e in
    let above : AllByRecursion (λ k. row_order event.key k ≡ Less) (keys_of ps) = subst (λ z. AllByRecursion (λ k. row_order z k ≡ Less) (keys_of ps)) (sym key) (above_first p ps sorted) in
    let own : AreOf event.key p.1 = subst (λ z. AreOf z p.1) (sym key) keyed.0 in
    ap (λ entries. events_of (entry_placed (fresh_entry event) entries) ++ all_events ps) (sym is) ∙ sym (within event p.1 (all_events ps) own (ahead_of event ps keyed.1 above))

placed_at : (event : Event) (p : Row × List Entry) (ps more : List (Row × List Entry)) (es : List Entry) (o : Ordering) → AreByKey (p ∷ ps) → IsStrictlySortedBy row_order (keys_of (p ∷ ps))
    → row_order event.key p.0 ≡ o → lookup (is_at (row_order event.key)) (p ∷ ps) ≡ Some es → cond (is_eq o) (Some p.1) (lookup (is_at (row_order event.key)) ps) ≡ Some es
    → (lookup (is_at (row_order event.key)) ps ≡ Some es → all_events more ≡ placed_by event_order event (all_events ps))
    → all_events (cond (is_eq o) ((p.0, entry_placed (fresh_entry event) es) ∷ ps) (p ∷ more)) ≡ placed_by event_order event (all_events (p ∷ ps))
placed_at event p ps more es Less keyed sorted e whole is later =
    let none : lookup (is_at (row_order event.key)) (p ∷ ps) ≡ None = lookup-none (is_at (row_order event.key)) (p ∷ ps) (none_below_head row_order_total event.key p ps sorted e) in cc (none, whole)
placed_at event p ps more es Equal keyed sorted e whole is later = placed_first event p ps es keyed sorted e (some_of p.1 es is)
placed_at event p ps more es Greater keyed sorted e whole is later =
    ap (λ events. events_of p.1 ++ events) (later is) ∙ sym (past event p.0 p.1 (all_events ps) keyed.0 e)

-- an event that is put into the history of its key stands by key and then by sequence
placed_keyed : (event : Event) (parts : List (Row × List Entry)) (es : List Entry) → AreByKey parts → IsStrictlySortedBy row_order (keys_of parts)
    → lookup (is_at (row_order event.key)) parts ≡ Some es
    → all_events (set_value (is_at (row_order event.key)) parts (entry_placed (fresh_entry event) es)) ≡ placed_by event_order event (all_events parts)
placed_keyed event [] es keyed sorted is = cc
placed_keyed event (p ∷ ps) es keyed sorted is =
    placed_at event p ps (set_value (is_at (row_order event.key)) ps (entry_placed (fresh_entry event) es)) es (row_order event.key p.0) keyed sorted refl is is
    (λ later. placed_keyed event ps es keyed.1 (rest_sorted p ps sorted) later)

pub events_put : (s : Standing) (event : Event) (parts : List (Row × List Entry)) (es : List Entry) → AreByKey parts → IsStrictlySortedBy row_order (keys_of parts)
    → lookup (is_at (row_order event.key)) parts ≡ Some es
    → all_events (set_value (is_at (row_order event.key)) parts (entries_after s event es)) ≡ events_after s event (all_events parts)
events_put Fresh event parts es keyed sorted is = placed_keyed event parts es keyed sorted is
events_put Repeat event parts es keyed sorted is = events_same event.key parts es is
events_put (Tied kept) event parts es keyed sorted is = events_same event.key parts es is
