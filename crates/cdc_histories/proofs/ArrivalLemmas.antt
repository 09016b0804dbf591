-- Histories and rows of events, in whatever order the events come.
use Rattle.std.proofs.Common.{◌≡◌, ◌+◌, ℕ, Bool, true, false, cond, ◌&&◌, ◌||◌, if◌then◌else◌, List, [], ◌∷◌, refl, sym, ap, ◌∙◌, arith}
use Rattle.std.specs.Prelude.{flat_map, map}
use Rattle.std.specs.List.{list_any}
use Rattle.std.specs.declared.cmp.Ordering.{Ordering}
use Rattle.std.specs.declared.cmp.Ordering.TheVariants.{Less, Equal, Greater}
use Rattle.std.specs.Ordering.{is_eq, is_gt, nat_cmp, ordering_reverse, ordering_then}
use Rattle.std.specs.Cmp.{IsTotalOrder, on_total, then_total}
use Rattle.std.proofs.lemmas.Cmp.{nat_cmp_total}
use Rattle.value_core.specs.declared.event.Event.{Event}
use Rattle.value_core.specs.Bags.{count_of, in_row_order}
use Rattle.value_core.specs.EventOrder.{Fresh, event_order, history_order, kind_rank, placed_by, same_moment, sorted_by, standing}
use Rattle.value_core.specs.Order.{Row, row_order, same_row}
use Rattle.value_core.specs.OrderLaws.{row_order_total, same_row_laws}
use Rattle.value_core.proofs.BagLemmas.{same_list}
use Rattle.event_ledger.specs.Keyed.{AreApart, of_key}
use Rattle.flow_model.specs.Current.{distinct, history}
use Rattle.flow_model.specs.History.{key_rows, scd2}
use Rattle.cdc_scd2.specs.Keys.{AreKeyed}
use Rattle.cdc_histories.specs.Keeping.{all_placed}
use Rattle.cdc_histories.proofs.PartLemmas.{history_is, key_there, keys_in}
use Rattle.cdc_histories.proofs.TurnLemmas.{free}
use Rattle.cdc_histories.proofs.ApplyLemmas.{count-append}
use Rattle.cdc_histories.proofs.CutLemmas.{fresh_sorted, greater_if, not_equal_by, one_key, sorted_keyed}

-- ---- two events put in either order

placed_past : (order : Event → Event → Ordering) (x z : Event) (zs : List Event) → is_gt (order x z) ≡ true → placed_by order x (z ∷ zs) ≡ z ∷ placed_by order x zs
placed_past order x z zs e = ap (λ b. if b then z ∷ placed_by order x zs else x ∷ z ∷ zs) e

placed_here : (order : Event → Event → Ordering) (x z : Event) (zs : List Event) → is_gt (order x z) ≡ false → placed_by order x (z ∷ zs) ≡ x ∷ z ∷ zs
placed_here order x z zs e = ap (λ b. if b then z ∷ placed_by order x zs else x ∷ z ∷ zs) e

past_both : (order : Event → Event → Ordering) → IsTotalOrder order → (x y z : Event) → order x y ≡ Less → is_gt (order x z) ≡ true → is_gt (order y z) ≡ true
past_both order total x y z less past =
    let first : order z x ≡ Less = total.antisymm z x ∙ ap ordering_reverse (greater_if (order x z) past) in
    ap is_gt (total.antisymm y z ∙ ap ordering_reverse (total.trans z x y first less))

swap_by : (order : Event → Event → Ordering) → IsTotalOrder order → (x y z : Event) (zs : List Event) → order x y ≡ Less → (a b : Bool) → is_gt (order x z) ≡ a → is_gt (order y z) ≡ b
    → placed_by order x (placed_by order y zs) ≡ placed_by order y (placed_by order x zs)
    → placed_by order x (placed_by order y (z ∷ zs)) ≡ placed_by order y (placed_by order x (z ∷ zs))
swap_by order total x y z zs less true true e f later =
    ap (placed_by order x) (placed_past order y z zs f) ∙ placed_past order x z (placed_by order y zs) e ∙ ap (λ s. z ∷ s) later
    ∙ sym (ap (placed_by order y) (placed_past order x z zs e) ∙ placed_past order y z (placed_by order x zs) f)
swap_by order total x y z zs less true false e f later =
    let wrong : true ≡ false = sym (past_both order total x y z less e) ∙ f in absurd (let none : ⊥ = cc in none)
swap_by order total x y z zs less false true e f later =
    let back : is_gt (order y x) ≡ true = ap is_gt (total.antisymm y x ∙ ap ordering_reverse less) in
    ap (placed_by order x) (placed_past order y z zs f) ∙ placed_here order x z (placed_by order y zs) e
    ∙ sym (ap (placed_by order y) (placed_here order x z zs e) ∙ placed_past order y x (z ∷ zs) back ∙ ap (λ s. x ∷ s) (placed_past order y z zs f))
swap_by order total x y z zs less false false e f later =
    let back : is_gt (order y x) ≡ true = ap is_gt (total.antisymm y x ∙ ap ordering_reverse less) in
    ap (placed_by order x) (placed_here order y z zs f) ∙ placed_here order x y (z ∷ zs) (ap is_gt less)
    ∙ sym (ap (placed_by order y) (placed_here order x z zs e) ∙ placed_past order y x (z ∷ zs) back ∙ ap (λ s. x ∷ s) (placed_here order y z zs f))

swap_less : (order : Event → Event → Ordering) → IsTotalOrder order → (x y : Event) (zs : List Event) → order x y ≡ Less → placed_by order x (placed_by order y zs) ≡ placed_by order y (placed_by order x zs)
swap_less order total x y [] less =
    placed_here order x y [] (ap is_gt less) ∙ sym (placed_past order y x [] (ap is_gt (total.antisymm y x ∙ ap ordering_reverse less)))
swap_less order total x y (z ∷ zs) less = swap_by order total x y z zs less (is_gt (order x z)) (is_gt (order y z)) refl refl (swap_less order total x y zs less)

swap_case : (order : Event → Event → Ordering) → IsTotalOrder order → (x y : Event) (zs : List Event) (o : Ordering) → order x y ≡ o → (o ≡ Equal → ⊥)
    → placed_by order x (placed_by order y zs) ≡ placed_by order y (placed_by order x zs)
swap_case order total x y zs Less is apart = swap_less order total x y zs is
swap_case order total x y zs Equal is apart = absurd (apart refl)
swap_case order total x y zs Greater is apart = sym (swap_less order total y x zs (total.antisymm y x ∙ ap ordering_reverse is))

history_total : IsTotalOrder history_order
history_total = then_total (on_total (λ (e : Event). e.sequence) row_order_total) (on_total (λ (e : Event). kind_rank e.kind) nat_cmp_total)

events_total : IsTotalOrder event_order
events_total = then_total (on_total (λ (e : Event). e.key) row_order_total) history_total

then_front : (o p k : Ordering) → ordering_then o (ordering_then p k) ≡ Equal → ordering_then o p ≡ Equal
then_front Less p k e = cc
then_front Equal Less k e = cc
then_front Equal Equal k e = refl
then_front Equal Greater k e = cc
then_front Greater p k e = cc

swap_apart : (x y : Event) (zs : List Event) → same_moment x y ≡ false → placed_by event_order x (placed_by event_order y zs) ≡ placed_by event_order y (placed_by event_order x zs)
swap_apart x y zs apart =
    swap_case event_order events_total x y zs (event_order x y) refl
    (λ e. not_equal_by (row_order x.key y.key) (row_order x.sequence y.sequence) apart (then_front (row_order x.key y.key) (row_order x.sequence y.sequence) (nat_cmp (kind_rank x.kind) (kind_rank y.kind)) e))

apart_sequence : (a b : Ordering) (own : Bool) → own ≡ true → ordering_then a b ≡ Equal → (own && is_eq a) ≡ false → ⊥
apart_sequence Less b true is e apart = cc
apart_sequence Equal b true is e apart = cc
apart_sequence Greater b true is e apart = cc
apart_sequence a b false is e apart = cc

swap_own : (x y : Event) (zs : List Event) → same_row x.key y.key ≡ true → same_moment x y ≡ false → placed_by history_order x (placed_by history_order y zs) ≡ placed_by history_order y (placed_by history_order x zs)
swap_own x y zs own apart =
    swap_case history_order history_total x y zs (history_order x y) refl
    (λ e. apart_sequence (row_order x.sequence y.sequence) (nat_cmp (kind_rank x.kind) (kind_rank y.kind)) (same_row x.key y.key) own e apart)

-- ---- events that come one after another are sorted in the end

placed_front : (x : Event) (kept xs : List Event) → standing xs x ≡ Fresh → all_placed (placed_by event_order x kept) xs ≡ placed_by event_order x (all_placed kept xs)
placed_front x kept [] fresh = refl
placed_front x kept (y ∷ ys) fresh =
    let rest = free y x ys fresh in ap (λ s. all_placed s ys) (swap_apart y x kept rest.0) ∙ placed_front x (placed_by event_order y kept) ys rest.1

pub placed_sorted : (events : List Event) → AreApart events → all_placed [] events ≡ sorted_by event_order events
placed_sorted [] apart = refl
placed_sorted (x ∷ xs) apart = placed_front x [] xs apart.0 ∙ ap (placed_by event_order x) (placed_sorted xs apart.1)

-- ---- the history of a key

other_by : (key : Row) (x z : Event) (zs more : List Event) (b : Bool) → same_row x.key key ≡ false → of_key key more ≡ of_key key zs
    → of_key key (if b then z ∷ more else x ∷ z ∷ zs) ≡ of_key key (z ∷ zs)
other_by key x z zs more true other later = ap (λ ys. cond (same_row z.key key) (z ∷ ys) ys) later
other_by key x z zs more false other later = ap (λ b. cond b (x ∷ of_key key (z ∷ zs)) (of_key key (z ∷ zs))) other

other_placed : (key : Row) (x : Event) (s : List Event) → same_row x.key key ≡ false → of_key key (placed_by event_order x s) ≡ of_key key s
other_placed key x [] other = ap (λ b. cond b (x ∷ []) []) other
other_placed key x (z ∷ zs) other = other_by key x z zs (placed_by event_order x zs) (is_gt (event_order x z)) other (other_placed key x zs other)

abbrev in_history : List Event → List Event
in_history events = sorted_by history_order events

own_cond : (x z : Event) (more zs : List Event) (b : Bool) → (b ≡ true → placed_by history_order z (placed_by history_order x (in_history zs)) ≡ placed_by history_order x (placed_by history_order z (in_history zs)))
    → in_history more ≡ placed_by history_order x (in_history zs) → in_history (cond b (z ∷ more) more) ≡ placed_by history_order x (in_history (cond b (z ∷ zs) zs))
own_cond x z more zs true swap later = ap (placed_by history_order z) later ∙ swap refl
own_cond x z more zs false swap later = later

own_by : (key : Row) (x z : Event) (zs more : List Event) (b : Bool) → same_row x.key key ≡ true → same_moment z x ≡ false → in_history (of_key key more) ≡ placed_by history_order x (in_history (of_key key zs))
    → in_history (of_key key (if b then z ∷ more else x ∷ z ∷ zs)) ≡ placed_by history_order x (in_history (of_key key (z ∷ zs)))
own_by key x z zs more true own apart later =
    own_cond x z (of_key key more) (of_key key zs) (same_row z.key key)
    (λ is. swap_own z x (in_history (of_key key zs)) (ap (λ k. same_row k x.key) (one_key z.key key is) ∙ same_row_laws.symm key x.key ∙ own) apart) later
own_by key x z zs more false own apart later = ap (λ b. in_history (cond b (x ∷ of_key key (z ∷ zs)) (of_key key (z ∷ zs)))) own

own_placed : (key : Row) (x : Event) (s : List Event) → same_row x.key key ≡ true → standing s x ≡ Fresh → in_history (of_key key (placed_by event_order x s)) ≡ placed_by history_order x (in_history (of_key key s))
own_placed key x [] own fresh = ap (λ b. in_history (cond b (x ∷ []) [])) own
own_placed key x (z ∷ zs) own fresh =
    let rest = free z x zs fresh in own_by key x z zs (placed_by event_order x zs) (is_gt (event_order x z)) own rest.0 (own_placed key x zs own rest.1)

history_by : (key : Row) (x : Event) (xs s : List Event) (b : Bool) → same_row x.key key ≡ b → standing s x ≡ Fresh → in_history (of_key key s) ≡ in_history (of_key key xs)
    → in_history (of_key key (placed_by event_order x s)) ≡ in_history (of_key key (x ∷ xs))
history_by key x xs s true is fresh later =
    own_placed key x s is fresh ∙ ap (placed_by history_order x) later ∙ sym (ap (λ b. in_history (cond b (x ∷ of_key key xs) (of_key key xs))) is)
history_by key x xs s false is fresh later =
    ap in_history (other_placed key x s is) ∙ later ∙ sym (ap (λ b. in_history (cond b (x ∷ of_key key xs) (of_key key xs))) is)

history_sorted : (key : Row) (events : List Event) → AreApart events → in_history (of_key key (sorted_by event_order events)) ≡ in_history (of_key key events)
history_sorted key [] apart = refl
history_sorted key (x ∷ xs) apart = history_by key x xs (sorted_by event_order xs) (same_row x.key key) refl (fresh_sorted xs x apart.0) (history_sorted key xs apart.1)

-- ---- the keys, each once

abbrev event_keys : List Event → List Row
event_keys events = map (λ event. event.key) events

keys_keyed : (events : List Event) → AreKeyed events → keys_in events ≡ event_keys events
keys_keyed [] keyed = refl
keys_keyed (x ∷ xs) keyed = key_there x.key x xs keyed.0 refl ∙ ap (λ ks. x.key ∷ ks) (keys_keyed xs keyed.1)

or_swap : (a b c : Bool) → (a || (b || c)) ≡ (b || (a || c))
or_swap true true c = refl
or_swap true false c = refl
or_swap false true c = refl
or_swap false false c = refl

any_by : (key : Row) (x z : Event) (zs more : List Event) (b : Bool) → list_any (same_row key) (event_keys more) ≡ (same_row key x.key || list_any (same_row key) (event_keys zs))
    → list_any (same_row key) (event_keys (if b then z ∷ more else x ∷ z ∷ zs)) ≡ (same_row key x.key || list_any (same_row key) (event_keys (z ∷ zs)))
any_by key x z zs more true later = ap (λ b. same_row key z.key || b) later ∙ or_swap (same_row key z.key) (same_row key x.key) (list_any (same_row key) (event_keys zs))
any_by key x z zs more false later = refl

any_placed : (key : Row) (x : Event) (s : List Event) → list_any (same_row key) (event_keys (placed_by event_order x s)) ≡ (same_row key x.key || list_any (same_row key) (event_keys s))
any_placed key x [] = refl
any_placed key x (z ∷ zs) = any_by key x z zs (placed_by event_order x zs) (is_gt (event_order x z)) (any_placed key x zs)

any_sorted : (key : Row) (events : List Event) → list_any (same_row key) (event_keys (sorted_by event_order events)) ≡ list_any (same_row key) (event_keys events)
any_sorted key [] = refl
any_sorted key (x ∷ xs) = any_placed key x (sorted_by event_order xs) ∙ ap (λ b. same_row key x.key || b) (any_sorted key xs)

-- how often the rows of some keys, each once, hold a row
abbrev told : (Row → List Row) → Row → List Row → ℕ
told f row keys = count_of row (flat_map f (distinct keys))

-- how often those of one key do, unless it comes again
abbrev mine : (Row → List Row) → Row → Row → Bool → ℕ
mine f row key again = if again then 0 else count_of row (f key)

told_by : (f : Row → List Row) (row key : Row) (keys : List Row) (b : Bool) → count_of row (flat_map f (if b then distinct keys else key ∷ distinct keys)) ≡ mine f row key b + told f row keys
told_by f row key keys true = omega arith
told_by f row key keys false = count-append row (f key) (flat_map f (distinct keys))

told_cons : (f : Row → List Row) (row key : Row) (keys : List Row) → told f row (key ∷ keys) ≡ mine f row key (list_any (same_row key) keys) + told f row keys
told_cons f row key keys = told_by f row key keys (list_any (same_row key) keys)

turn_by : (f : Row → List Row) (row a b : Row) (n : ℕ) (keys : List Row) (test : Bool) → same_row a b ≡ test
    → mine f row b (same_row b a || list_any (same_row b) keys) + (mine f row a (list_any (same_row a) keys) + n) ≡ mine f row a (same_row a b || list_any (same_row a) keys) + (mine f row b (list_any (same_row b) keys) + n)
turn_by f row a b n keys true is =
    let e : a ≡ b = one_key a b is in
    let back : same_row b a ≡ true = same_row_laws.symm b a ∙ is in
    (λ i. mine f row b (back i || list_any (same_row b) keys) + (mine f row (e i) (list_any (same_row (e i)) keys) + n))
    ∙ sym (λ i. mine f row a (is i || list_any (same_row a) keys) + (mine f row b (list_any (same_row b) keys) + n))
turn_by f row a b n keys false is =
    let back : same_row b a ≡ false = same_row_laws.symm b a ∙ is in
    (λ i. mine f row b (back i || list_any (same_row b) keys) + (mine f row a (list_any (same_row a) keys) + n))
    ∙ sums (mine f row b (list_any (same_row b) keys)) (mine f row a (list_any (same_row a) keys)) n
    ∙ sym (λ i. mine f row a (is i || list_any (same_row a) keys) + (mine f row b (list_any (same_row b) keys) + n))
  where
    sums : (p q r : ℕ) → p + (q + r) ≡ q + (p + r)
    sums p q r = omega arith

placed_by_keys : (f : Row → List Row) (row : Row) (x z : Event) (zs more : List Event) (b : Bool) → list_any (same_row z.key) (event_keys more) ≡ (same_row z.key x.key || list_any (same_row z.key) (event_keys zs))
    → told f row (event_keys more) ≡ told f row (x.key ∷ event_keys zs) → told f row (event_keys (if b then z ∷ more else x ∷ z ∷ zs)) ≡ told f row (x.key ∷ z.key ∷ event_keys zs)
placed_by_keys f row x z zs more true any later =
    let keys : List Row = event_keys zs in
    told_cons f row z.key (event_keys more)
    ∙ (λ i. mine f row z.key (any i) + later i)
    ∙ ap (λ n. mine f row z.key (same_row z.key x.key || list_any (same_row z.key) keys) + n) (told_cons f row x.key keys)
    ∙ turn_by f row x.key z.key (told f row keys) keys (same_row x.key z.key) refl
    ∙ ap (λ n. mine f row x.key (same_row x.key z.key || list_any (same_row x.key) keys) + n) (sym (told_cons f row z.key keys))
    ∙ sym (told_cons f row x.key (z.key ∷ keys))
placed_by_keys f row x z zs more false any later = refl

told_placed : (f : Row → List Row) (row : Row) (x : Event) (s : List Event) → told f row (event_keys (placed_by event_order x s)) ≡ told f row (x.key ∷ event_keys s)
told_placed f row x [] = refl
told_placed f row x (z ∷ zs) = placed_by_keys f row x z zs (placed_by event_order x zs) (is_gt (event_order x z)) (any_placed z.key x zs) (told_placed f row x zs)

told_sorted : (f : Row → List Row) (row : Row) (events : List Event) → told f row (event_keys (sorted_by event_order events)) ≡ told f row (event_keys events)
told_sorted f row [] = refl
told_sorted f row (x ∷ xs) =
    told_placed f row x (sorted_by event_order xs)
    ∙ told_cons f row x.key (event_keys (sorted_by event_order xs))
    ∙ (λ i. mine f row x.key (any_sorted x.key xs i) + told_sorted f row xs i)
    ∙ sym (told_cons f row x.key (event_keys xs))

-- ---- the rows

-- the rows of SCD type 2 of events of own moments are those of the same events sorted
pub scd2_sorted : (ignore_null : Bool) (tracked : List ℕ) (events : List Event) → AreApart events → AreKeyed events → scd2 ignore_null tracked (sorted_by event_order events) ≡ scd2 ignore_null tracked events
scd2_sorted ignore_null tracked events apart keyed =
    let sorted : List Event = sorted_by event_order events in
    let first : (key : Row) → history key sorted ≡ history key events =
    λ key. history_is key sorted (sorted_keyed events keyed) ∙ history_sorted key events apart ∙ sym (history_is key events keyed) in
    let f : Row → List Row = λ key. key_rows ignore_null tracked (history key events) in
    (λ i. in_row_order (flat_map (λ key. key_rows ignore_null tracked (first key i)) (distinct (keys_in sorted))))
    ∙ (λ i. in_row_order (flat_map f (distinct (keys_keyed sorted (sorted_keyed events keyed) i))))
    ∙ same_list (flat_map f (distinct (event_keys sorted))) (flat_map f (distinct (event_keys events))) (λ row. told_sorted f row events)
    ∙ sym (λ i. in_row_order (flat_map f (distinct (keys_keyed events keyed i))))
