-- What is kept of each key, and the rows that it tells.
use Rattle.std.proofs.Common.{◌≡◌, ℕ, ◌+◌, Bool, true, false, cond, ◌||◌, if◌then◌else◌, List, [], ◌∷◌, fold, map, Option, Some, None, is_some, refl, sym, ap, ◌∙◌}
use Rattle.std.specs.Prelude.{filter_map, unwrap_or, ◌==◌}
use Rattle.std.specs.List.{AllByRecursion, cons_option, sum_by}
use Rattle.std.specs.List.Sorted.{IsStrictlySortedBy}
use Rattle.std.specs.Map.{keys_of as map_keys, lookup, values_of}
use Rattle.std.specs.BTreeMap.{is_at}
use Rattle.std.specs.declared.cmp.Ordering.TheVariants.{Less}
use Rattle.std.specs.Ordering.{is_eq}
use Rattle.std.proofs.lemmas.List.Sums.{sum_by-cons}
use Rattle.std.proofs.lemmas.Map.Made.{is_some-lookup}
use Rattle.value_core.specs.declared.event.Event.{Event}
use Rattle.value_core.specs.declared.event.EventKind.{EventKind}
use Rattle.value_core.specs.declared.event.EventKind.TheVariants.{Delete, Truncate, Upsert}
use Rattle.value_core.specs.Bags.{count_of}
use Rattle.value_core.specs.EventOrder.{is_truncate, kind_rank}
use Rattle.value_core.specs.Order.{Row, row_order, same_row}
use Rattle.value_core.specs.OrderLaws.{same_row_laws}
use Rattle.value_core.proofs.BagLemmas.{count-in_row_order}
use Rattle.flow_model.specs.Current.{distinct, keys_of}
use Rattle.cdc_scd1.specs.Stamps.{Stamps, no_event, outlives, row_told, shown, stamped, stamped_by}
use Rattle.cdc_arrivals.specs.Arrivals.{heard, rows_told}
use Rattle.cdc_current.specs.Keeping.{Keeping, Keeps, own_stamps, rows_kept, stamps_at, under}
use Rattle.cdc_current.proofs.CountLemmas.{Differ, IsNothingBut, count_told, first_false, has, here, one_sum, rest_false, same_is}

-- ---- keys that differ

absorbed : (q x : Row) (xs : List Row) (b : Bool) → same_row q x ≡ b → has x xs ≡ true → has q xs ≡ (b || has q xs)
absorbed q x xs true e there = ap (λ z. has z xs) (same_is q x e) ∙ there
absorbed q x xs false e there = refl

has_distinct_by : (q x : Row) (xs more : List Row) (b : Bool) → has x xs ≡ b → has q more ≡ has q xs → has q (if b then more else x ∷ more) ≡ has q (x ∷ xs)
has_distinct_by q x xs more true e later = later ∙ absorbed q x xs (same_row q x) refl e
has_distinct_by q x xs more false e later = ap (λ b. same_row q x || b) later

pub has_distinct : (q : Row) (xs : List Row) → has q (distinct xs) ≡ has q xs
has_distinct q [] = refl
has_distinct q (x ∷ xs) = has_distinct_by q x xs (distinct xs) (has x xs) refl (has_distinct q xs)

differ_distinct_by : (x : Row) (xs more : List Row) (b : Bool) → has x xs ≡ b → has x more ≡ has x xs → Differ more → Differ (if b then more else x ∷ more)
differ_distinct_by x xs more true e same d = d
differ_distinct_by x xs more false e same d = (same ∙ e, d)

pub differ_distinct : (xs : List Row) → Differ (distinct xs)
differ_distinct [] = tt
differ_distinct (x ∷ xs) = differ_distinct_by x xs (distinct xs) (has x xs) refl (has_distinct x xs) (differ_distinct xs)

none_above : (k : Row) (ks : List Row) → AllByRecursion (λ q. row_order k q ≡ Less) ks → has k ks ≡ false
none_above k [] above = refl
none_above k (q ∷ qs) above = ap (λ b. b || has k qs) (ap is_eq above.0) ∙ none_above k qs above.1

keys_above : (k : Row) (ks : List Row) → IsStrictlySortedBy row_order (k ∷ ks) → AllByRecursion (λ q. row_order k q ≡ Less) ks
unfolding IsStrictlySortedBy
keys_above k ks sorted = sorted.0

keys_rest : (k : Row) (ks : List Row) → IsStrictlySortedBy row_order (k ∷ ks) → IsStrictlySortedBy row_order ks
unfolding IsStrictlySortedBy
keys_rest k ks sorted = sorted.1

differ_sorted : (ks : List Row) → IsStrictlySortedBy row_order ks → Differ ks
differ_sorted [] sorted = tt
differ_sorted (k ∷ ks) sorted = (none_above k ks (keys_above k ks sorted), differ_sorted ks (keys_rest k ks sorted))

-- ---- each entry of a map is found under its key

abbrev AreFound : List (Row × Stamps) → List (Row × Stamps) → Type 0
AreFound whole [] = Unit {0}
AreFound whole (e ∷ es) = (lookup (is_at (row_order e.0)) whole ≡ Some e.1) × AreFound whole es

found_more : (p : Row × Stamps) (whole part : List (Row × Stamps)) → AllByRecursion (λ k. row_order p.0 k ≡ Less) (map_keys part) → AreFound whole part → AreFound (p ∷ whole) part
found_more p whole [] above found = tt
found_more p whole (e ∷ es) above found = (
  ap (λ b. cond b (Some p.1) (lookup (is_at (row_order e.0)) whole)) (same_row_laws.symm e.0 p.0 ∙ ap is_eq above.0) ∙ found.0,
  found_more p whole es above.1 found.1,
)

found_all : (es : List (Row × Stamps)) → IsStrictlySortedBy row_order (map_keys es) → AreFound es es
found_all [] sorted = tt
found_all (p ∷ ps) sorted = (
  ap (λ b. cond b (Some p.1) (lookup (is_at (row_order p.0)) ps)) (same_row_laws.refl p.0),
  found_more p ps ps (keys_above p.0 (map_keys ps) sorted) (found_all ps (keys_rest p.0 (map_keys ps) sorted)),
)

sum_found : (w : Stamps → ℕ) (whole part : List (Row × Stamps)) → AreFound whole part → sum_by w (values_of part) ≡ sum_by (λ k. w (own_stamps k whole)) (map_keys part)
sum_found w whole [] found = refl
sum_found w whole (e ∷ es) found =
    sum_by-cons w e.1 (values_of es)
    ∙ (λ i. w (unwrap_or (sym found.0 i) no_event) + sum_found w whole es found.1 i)
    ∙ sym (sum_by-cons (λ k. w (own_stamps k whole)) e.0 (map_keys es))

-- ---- a key without an upsert has no row

no_row : (stamps : Stamps) → stamps.upserted ≡ None → row_told stamps ≡ None
no_row stamps e = ap (λ o. if outlives stamps.deleted stamps.truncated o then Some (map (shown stamps.deleted stamps.truncated) stamps.cells) else None) e

absent_is : {A : Type 0} (o : Option A) → is_some o ≡ false → o ≡ None
absent_is (Some x) e = cc
absent_is None e = refl

none_of_own : (key : Row) (kept : Keeping) → has key (map_keys kept.keys) ≡ false → row_told (stamps_at key kept) ≡ None
none_of_own key kept lacks =
    ap (λ o. row_told (under kept.truncated (unwrap_or o no_event)))
    (absent_is (lookup (is_at (row_order key)) kept.keys) (is_some-lookup (is_at (row_order key)) kept.keys ∙ lacks))

abbrev pub key_of : Event → Option Row
key_of event = if is_truncate event then None else Some event.key

abbrev pub keys_in : List Event → List Row
keys_in events = filter_map key_of events

other_by : (ignore_null : Bool) (k : Row) (event : Event) (more : List Event) (s : Stamps) → has k (event.key ∷ keys_in more) ≡ false
    → (has k (keys_in more) ≡ false → (fold (stamped ignore_null) s (heard k more)).upserted ≡ s.upserted)
    → (fold (stamped ignore_null) s (cond (same_row event.key k) (event ∷ heard k more) (heard k more))).upserted ≡ s.upserted
other_by ignore_null k event more s lacks later =
    ap (λ b. (fold (stamped ignore_null) s (cond b (event ∷ heard k more) (heard k more))).upserted)
    (same_row_laws.symm event.key k ∙ first_false (same_row k event.key) (has k (keys_in more)) lacks)
    ∙ later (rest_false (same_row k event.key) (has k (keys_in more)) lacks)

no_upserts_by : (ignore_null : Bool) (k : Row) (event : Event) (more : List Event) (s : Stamps) (kind : EventKind) → event.kind ≡ kind
    → has k (cons_option (if kind_rank kind == 0 then None else Some event.key) (keys_in more)) ≡ false
    → ((t : Stamps) → has k (keys_in more) ≡ false → (fold (stamped ignore_null) t (heard k more)).upserted ≡ t.upserted)
    → (fold (stamped ignore_null) s (cond (kind_rank kind == 0 || same_row event.key k) (event ∷ heard k more) (heard k more))).upserted ≡ s.upserted
no_upserts_by ignore_null k event more s Truncate e lacks later = later (stamped ignore_null s event) lacks ∙ ap (λ kind. (stamped_by ignore_null s event kind).upserted) e
no_upserts_by ignore_null k event more s Delete e lacks later = other_by ignore_null k event more s lacks (later s)
no_upserts_by ignore_null k event more s Upsert e lacks later = other_by ignore_null k event more s lacks (later s)

no_upserts : (ignore_null : Bool) (k : Row) (events : List Event) (s : Stamps) → has k (keys_in events) ≡ false → (fold (stamped ignore_null) s (heard k events)).upserted ≡ s.upserted
no_upserts ignore_null k [] s lacks = refl
no_upserts ignore_null k (event ∷ more) s lacks = no_upserts_by ignore_null k event more s event.kind refl lacks (no_upserts ignore_null k more)

-- ---- the rows that are kept are those that the events' stamps tell

pub rows_are : (kept : Keeping) (events : List Event) → Keeps kept events → IsStrictlySortedBy row_order (map_keys kept.keys) → (row : Row)
    → count_of row (rows_kept kept) ≡ count_of row (rows_told kept.ignore_null events)
rows_are kept events keeps sorted row =
    let g : Row → Option Row = λ key. row_told (fold (stamped kept.ignore_null) no_event (heard key events)) in
    let w : Row → ℕ = λ key. here row (g key) in
    let left : IsNothingBut w (map_keys kept.keys) (keys_of events) =
    λ key lacks is. ap (here row) (no_row (fold (stamped kept.ignore_null) no_event (heard key events)) (no_upserts kept.ignore_null key events no_event (sym (has_distinct key (keys_in events)) ∙ lacks))) in
    let right : IsNothingBut w (keys_of events) (map_keys kept.keys) =
    λ key lacks is. ap (λ stamps. here row (row_told stamps)) (sym (keeps key)) ∙ ap (here row) (none_of_own key kept lacks) in
    count_told row (λ stamps. row_told (under kept.truncated stamps)) (values_of kept.keys)
    ∙ sum_found (λ stamps. here row (row_told (under kept.truncated stamps))) kept.keys kept.keys (found_all kept.keys sorted)
    ∙ (λ i. sum_by (λ key. here row (row_told (keeps key i))) (map_keys kept.keys))
    ∙ one_sum w (map_keys kept.keys) (keys_of events) (differ_sorted (map_keys kept.keys) sorted) (differ_distinct (keys_in events)) left right
    ∙ sym (count_told row g (keys_of events))
    ∙ sym (count-in_row_order row (filter_map g (keys_of events)))
