-- An event changes the rows of its own key alone.
use Rattle.std.proofs.Common.{◌≡◌, ℕ, Bool, true, false, cond, ◌||◌, if◌then◌else◌, List, [], ◌∷◌, ◌++◌, Option, Some, None, refl, sym, ap, ◌∙◌, append_assoc}
use Rattle.std.specs.Prelude.{filter, filter_map, flat_map}
use Rattle.std.specs.List.{cons_option, list_any}
use Rattle.value_core.specs.declared.event.Event.{Event}
use Rattle.value_core.specs.Bags.{in_row_order, net_change}
use Rattle.value_core.specs.EventOrder.{is_truncate, history_order, placed_by, sorted_by}
use Rattle.value_core.specs.Order.{Row, same_row}
use Rattle.value_core.proofs.BagLemmas.{count-in_row_order}
use Rattle.flow_model.specs.Current.{distinct, history, keys_of}
use Rattle.flow_model.specs.History.{key_rows, scd2}
use Rattle.net_changes.proofs.NetLemmas.{net_same, net_within}
use Rattle.cdc_runs.proofs.StandLemmas.{same_row-is, same_row-itself}
use Rattle.cdc_scd2.specs.Keys.{AreKeyed}

-- ---- tests

or-false : (a b : Bool) → (a || b) ≡ false → (a ≡ false) × (b ≡ false)
or-false true b e = cc
or-false false b e = (refl, e)

flipped : (a b : Row) → same_row a b ≡ false → same_row b a ≡ false
flipped a b e = by (same_row b a) refl
  where
    by : (test : Bool) → same_row b a ≡ test → test ≡ false
    by true h = absurd (let none : ⊥ = differ (sym (same_row-itself a) ∙ ap (same_row a) (sym (same_row-is b a h)) ∙ e) in none)
      where
        differ : true ≡ false → ⊥
        differ h = cc
    by false h = refl

-- ---- the history of a key with an event more

abbrev key_of : Event → Option Row
key_of event = if is_truncate event then None else Some event.key

key_there : (event : Event) (events : List Event) → is_truncate event ≡ false → filter_map key_of (event ∷ events) ≡ event.key ∷ filter_map key_of events
key_there event events e = ap (λ test. cons_option (if test then None else Some event.key) (filter_map key_of events)) e

abbrev is_of : Row → Event → Bool
is_of key event = is_truncate event || same_row event.key key

other_history : (key : Row) (event : Event) (events : List Event) → is_truncate event ≡ false → same_row event.key key ≡ false → history key (event ∷ events) ≡ history key events
other_history key event events e other = λ i. sorted_by history_order (cond (e i || other i) (event ∷ filter (is_of key) events) (filter (is_of key) events))

own_history : (event : Event) (events : List Event) → is_truncate event ≡ false → history event.key (event ∷ events) ≡ placed_by history_order event (history event.key events)
own_history event events e = λ i. sorted_by history_order (cond (e i || same_row-itself event.key i) (event ∷ filter (is_of event.key) events) (filter (is_of event.key) events))

none_of : (key : Row) (events : List Event) → AreKeyed events → list_any (same_row key) (filter_map key_of events) ≡ false → filter (is_of key) events ≡ []
none_of key [] keyed none = refl
none_of key (event ∷ events) keyed none =
    let both = or-false (same_row key event.key) (list_any (same_row key) (filter_map key_of events)) (sym (ap (list_any (same_row key)) (key_there event events keyed.0)) ∙ none) in
    (λ i. cond (keyed.0 i || flipped key event.key both.0 i) (event ∷ filter (is_of key) events) (filter (is_of key) events)) ∙ none_of key events keyed.1 both.1

-- ---- keys without repeats

abbrev AreDistinct : List Row → Type 0
AreDistinct [] = Unit {0}
AreDistinct (x ∷ xs) = (list_any (same_row x) xs ≡ false) × AreDistinct xs

none_distinct_by : (key x : Row) (xs : List Row) (test : Bool) → same_row key x ≡ false → list_any (same_row key) (distinct xs) ≡ false → list_any (same_row key) (if test then distinct xs else x ∷ distinct xs) ≡ false
none_distinct_by key x xs true e none = none
none_distinct_by key x xs false e none = λ i. e i || none i

none_distinct : (key : Row) (xs : List Row) → list_any (same_row key) xs ≡ false → list_any (same_row key) (distinct xs) ≡ false
none_distinct key [] none = refl
none_distinct key (x ∷ xs) none =
    let both = or-false (same_row key x) (list_any (same_row key) xs) none in
    none_distinct_by key x xs (list_any (same_row x) xs) both.0 (none_distinct key xs both.1)

some_distinct_by : (key x : Row) (xs : List Row) → (list_any (same_row key) xs ≡ true → list_any (same_row key) (distinct xs) ≡ true)
    → (again : Bool) → list_any (same_row x) xs ≡ again → (here : Bool) → same_row key x ≡ here → (here || list_any (same_row key) xs) ≡ true
    → list_any (same_row key) (if again then distinct xs else x ∷ distinct xs) ≡ true
some_distinct_by key x xs more true e true h some = more (ap (λ k. list_any (same_row k) xs) (same_row-is key x h) ∙ e)
some_distinct_by key x xs more true e false h some = more some
some_distinct_by key x xs more false e true h some = ap (λ test. test || list_any (same_row key) (distinct xs)) h
some_distinct_by key x xs more false e false h some = λ i. h i || more some i

some_distinct : (key : Row) (xs : List Row) → list_any (same_row key) xs ≡ true → list_any (same_row key) (distinct xs) ≡ true
some_distinct key [] some = some
some_distinct key (x ∷ xs) some = some_distinct_by key x xs (some_distinct key xs) (list_any (same_row x) xs) refl (same_row key x) refl some

are_distinct_by : (x : Row) (xs : List Row) → AreDistinct (distinct xs) → (again : Bool) → list_any (same_row x) xs ≡ again → AreDistinct (if again then distinct xs else x ∷ distinct xs)
are_distinct_by x xs apart true e = apart
are_distinct_by x xs apart false e = (none_distinct x xs e, apart)

are_distinct : (xs : List Row) → AreDistinct (distinct xs)
are_distinct [] = tt
are_distinct (x ∷ xs) = are_distinct_by x xs (are_distinct xs) (list_any (same_row x) xs) refl

-- ---- the rows of all keys, where those of one key change

abbrev Agree : (Row → List Row) → (Row → List Row) → Row → Type 0
Agree f g key = (other : Row) → same_row key other ≡ false → g other ≡ f other

record Parts (f g : Row → List Row) (key : Row) (keys : List Row) : Type 0 where
  before : List Row
  behind : List Row
  old : flat_map f keys ≡ before ++ (f key ++ behind)
  new : flat_map g keys ≡ before ++ (g key ++ behind)

same_all : (f g : Row → List Row) (key : Row) (keys : List Row) → Agree f g key → list_any (same_row key) keys ≡ false → flat_map g keys ≡ flat_map f keys
same_all f g key [] agree none = refl
same_all f g key (x ∷ xs) agree none =
    let both = or-false (same_row key x) (list_any (same_row key) xs) none in
    λ i. agree x both.0 i ++ same_all f g key xs agree both.1 i

parts_by : (f g : Row → List Row) (key x : Row) (xs : List Row) → Agree f g key → list_any (same_row x) xs ≡ false → (list_any (same_row key) xs ≡ true → Parts f g key xs)
    → (here : Bool) → same_row key x ≡ here → (here || list_any (same_row key) xs) ≡ true → Parts f g key (x ∷ xs)
parts_by f g key x xs agree apart more true h some =
    let same : key ≡ x = same_row-is key x h in
    record {
      before = [];
      behind = flat_map f xs;
      old = ap (λ k. f k ++ flat_map f xs) (sym same);
      new = λ i. g (sym same i) ++ same_all f g key xs agree (ap (λ k. list_any (same_row k) xs) same ∙ apart) i;
    }
parts_by f g key x xs agree apart more false h some =
    let rest : Parts f g key xs = more some in
    record {
      before = f x ++ rest.before;
      behind = rest.behind;
      old = ap (λ rows. f x ++ rows) rest.old ∙ sym (append_assoc (f x) rest.before (f key ++ rest.behind));
      new = (λ i. agree x h i ++ rest.new i) ∙ sym (append_assoc (f x) rest.before (g key ++ rest.behind));
    }

parts : (f g : Row → List Row) (key : Row) (keys : List Row) → Agree f g key → AreDistinct keys → list_any (same_row key) keys ≡ true → Parts f g key keys
parts f g key [] agree apart some = absurd (let none : ⊥ = cc in none)
parts f g key (x ∷ xs) agree apart some = parts_by f g key x xs agree apart.0 (parts f g key xs agree apart.1) (same_row key x) refl some

one_key : (f g : Row → List Row) (key : Row) (keys : List Row) → Agree f g key → (list_any (same_row key) keys ≡ false → f key ≡ [])
    → (again : Bool) → list_any (same_row key) keys ≡ again
    → net_change (flat_map f (distinct keys)) (flat_map g (if again then distinct keys else key ∷ distinct keys)) ≡ net_change (f key) (g key)
one_key f g key keys agree empty true e =
    let all : Parts f g key (distinct keys) = parts f g key (distinct keys) agree (are_distinct keys) (some_distinct key keys e) in
    (λ i. net_change (all.old i) (all.new i)) ∙ net_within all.before (f key) (g key) all.behind
one_key f g key keys agree empty false e =
    ap (λ rows. net_change (flat_map f (distinct keys)) (g key ++ rows)) (same_all f g key (distinct keys) agree (none_distinct key keys e))
    ∙ net_within [] [] (g key) (flat_map f (distinct keys)) ∙ ap (λ rows. net_change rows (g key)) (sym (empty e))

in_order : (old new : List Row) → net_change (in_row_order old) (in_row_order new) ≡ net_change old new
in_order old new = net_same old new (in_row_order old) (in_row_order new) (λ row. count-in_row_order row old) (λ row. count-in_row_order row new)

pub own_key : (ignore_null : Bool) (tracked : List ℕ) (events : List Event) (event : Event) → AreKeyed (event ∷ events)
    → net_change (scd2 ignore_null tracked events) (scd2 ignore_null tracked (event ∷ events))
    ≡ net_change (key_rows ignore_null tracked (history event.key events)) (key_rows ignore_null tracked (placed_by history_order event (history event.key events)))
own_key ignore_null tracked events event keyed =
    let old : Row → List Row = λ key. key_rows ignore_null tracked (history key events) in
    let new : Row → List Row = λ key. key_rows ignore_null tracked (history key (event ∷ events)) in
    in_order (flat_map old (keys_of events)) (flat_map new (keys_of (event ∷ events)))
    ∙ ap (λ keys. net_change (flat_map old (keys_of events)) (flat_map new (distinct keys))) (key_there event events keyed.0)
    ∙ one_key old new event.key (filter_map key_of events)
    (λ other apart. ap (key_rows ignore_null tracked) (other_history other event events keyed.0 apart))
    (λ none. ap (λ mine. key_rows ignore_null tracked (sorted_by history_order mine)) (none_of event.key events keyed.1 none))
    (list_any (same_row event.key) (filter_map key_of events)) refl
    ∙ ap (λ mine. net_change (old event.key) (key_rows ignore_null tracked mine)) (own_history event events keyed.0)
