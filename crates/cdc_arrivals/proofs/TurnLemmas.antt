-- Events leave the same stamps in the order of their arrival and in that of their history.
use Rattle.std.proofs.Common.{◌≡◌, ℕ, Bool, true, false, ◌&&◌, if◌then◌else◌, List, [], ◌∷◌, fold, None, refl, sym, ap, ◌∙◌}
use Rattle.std.specs.Prelude.{◌==◌}
use Rattle.std.specs.declared.cmp.Ordering.{Ordering}
use Rattle.std.specs.declared.cmp.Ordering.TheVariants.{Less, Equal, Greater}
use Rattle.std.specs.Ordering.{is_eq, is_gt, nat_cmp, ordering_reverse, ordering_then}
use Rattle.std.specs.Cmp.{IsTotalOrder, upto, then_total, on_total, nat_cmp_total}
use Rattle.value_core.specs.declared.event.Event.{Event}
use Rattle.value_core.specs.declared.event.EventKind.{EventKind}
use Rattle.value_core.specs.declared.event.EventKind.TheVariants.{Upsert, Delete, Truncate}
use Rattle.value_core.specs.EventOrder.{history_order, is_truncate, kind_rank, placed_by, sorted_by}
use Rattle.value_core.specs.Order.{Row, row_order, same_row}
use Rattle.value_core.specs.OrderLaws.{row_order_total, same_row_laws}
use Rattle.flow_model.specs.Current.{after_event}
use Rattle.cdc_scd1.specs.Stamps.{AllBehind, AreInTurn, IsBeforeBy, Stamps, no_event, row_told, stamped}
use Rattle.cdc_scd1.proofs.ToldRows.{read}
use Rattle.cdc_arrivals.specs.Arrivals.{AreOfOwnMoments, CollidesWithNone, HasWidth, HaveWidth, are_alike, collide}
use Rattle.cdc_arrivals.proofs.StampLemmas.{stamps_either}

-- ---- events that collide with none

alike_turned : (a b : Bool) → are_alike a b ≡ are_alike b a
alike_turned true true = refl
alike_turned true false = refl
alike_turned false true = refl
alike_turned false false = refl

turned : (a b : Event) → collide a b ≡ false → collide b a ≡ false
turned a b e = (λ i. same_row_laws.symm b.sequence a.sequence i && alike_turned (is_truncate b) (is_truncate a) i) ∙ e

none_by : (event x y : Event) (ys more : List Event) (b : Bool) → collide event x ≡ false → CollidesWithNone event (y ∷ ys) → CollidesWithNone event more
    → CollidesWithNone event (if b then y ∷ more else x ∷ y ∷ ys)
none_by event x y ys more true apart none later = (none.0, later)
none_by event x y ys more false apart none later = (apart, none)

none_placed : (event x : Event) (ys : List Event) → collide event x ≡ false → CollidesWithNone event ys → CollidesWithNone event (placed_by history_order x ys)
none_placed event x [] apart none = (apart, tt)
none_placed event x (y ∷ ys) apart none = none_by event x y ys (placed_by history_order x ys) (is_gt (history_order x y)) apart none (none_placed event x ys apart none.1)

none_sorted : (event : Event) (xs : List Event) → CollidesWithNone event xs → CollidesWithNone event (sorted_by history_order xs)
none_sorted event [] none = tt
none_sorted event (x ∷ xs) none = none_placed event x (sorted_by history_order xs) none.0 (none_sorted event xs none.1)

own_by : (x y : Event) (ys more : List Event) (b : Bool) → CollidesWithNone x (y ∷ ys) → AreOfOwnMoments (y ∷ ys) → CollidesWithNone y more → AreOfOwnMoments more
    → AreOfOwnMoments (if b then y ∷ more else x ∷ y ∷ ys)
own_by x y ys more true none own mine later = (mine, later)
own_by x y ys more false none own mine later = (none, own)

own_placed : (x : Event) (ys : List Event) → CollidesWithNone x ys → AreOfOwnMoments ys → AreOfOwnMoments (placed_by history_order x ys)
own_placed x [] none own = (tt, tt)
own_placed x (y ∷ ys) none own =
    own_by x y ys (placed_by history_order x ys) (is_gt (history_order x y)) none own (none_placed y x ys (turned x y none.0) own.0) (own_placed x ys none.1 own.1)

own_sorted : (xs : List Event) → AreOfOwnMoments xs → AreOfOwnMoments (sorted_by history_order xs)
own_sorted [] own = tt
own_sorted (x ∷ xs) own = own_placed x (sorted_by history_order xs) (none_sorted x xs own.0) (own_sorted xs own.1)

-- ---- the stamps of a sorted list

fold_by : (ignore_null : Bool) (z : Stamps) (x y : Event) (ys more : List Event) (b : Bool)
    → fold (stamped ignore_null) (stamped ignore_null z y) more ≡ fold (stamped ignore_null) (stamped ignore_null (stamped ignore_null z x) y) ys
    → fold (stamped ignore_null) z (if b then y ∷ more else x ∷ y ∷ ys) ≡ fold (stamped ignore_null) (stamped ignore_null z x) (y ∷ ys)
fold_by ignore_null z x y ys more true later = later
fold_by ignore_null z x y ys more false later = refl

wide_by : (wide : ℕ) (x y : Event) (ys more : List Event) (b : Bool) → HasWidth wide x → HaveWidth wide (y ∷ ys) → HaveWidth wide more → HaveWidth wide (if b then y ∷ more else x ∷ y ∷ ys)
wide_by wide x y ys more true mine have later = (have.0, later)
wide_by wide x y ys more false mine have later = (mine, have)

wide_placed : (wide : ℕ) (x : Event) (ys : List Event) → HasWidth wide x → HaveWidth wide ys → HaveWidth wide (placed_by history_order x ys)
wide_placed wide x [] mine have = (mine, tt)
wide_placed wide x (y ∷ ys) mine have = wide_by wide x y ys (placed_by history_order x ys) (is_gt (history_order x y)) mine have (wide_placed wide x ys mine have.1)

wide_sorted : (wide : ℕ) (xs : List Event) → HaveWidth wide xs → HaveWidth wide (sorted_by history_order xs)
wide_sorted wide [] have = tt
wide_sorted wide (x ∷ xs) have = wide_placed wide x (sorted_by history_order xs) have.0 (wide_sorted wide xs have.1)

fold_placed : (ignore_null : Bool) (wide : ℕ) (z : Stamps) (x : Event) (ys : List Event) → HasWidth wide x → HaveWidth wide ys → CollidesWithNone x ys
    → fold (stamped ignore_null) z (placed_by history_order x ys) ≡ fold (stamped ignore_null) (stamped ignore_null z x) ys
fold_placed ignore_null wide z x [] mine have none = refl
fold_placed ignore_null wide z x (y ∷ ys) mine have none =
    fold_by ignore_null z x y ys (placed_by history_order x ys) (is_gt (history_order x y))
    (fold_placed ignore_null wide (stamped ignore_null z y) x ys mine have.1 none.1
    ∙ ap (λ (u : Stamps). fold (stamped ignore_null) u ys) (sym (stamps_either ignore_null z x y wide mine have.0 none.0)))

fold_sorted : (ignore_null : Bool) (wide : ℕ) (z : Stamps) (xs : List Event) → HaveWidth wide xs → AreOfOwnMoments xs
    → fold (stamped ignore_null) z (sorted_by history_order xs) ≡ fold (stamped ignore_null) z xs
fold_sorted ignore_null wide z [] have own = refl
fold_sorted ignore_null wide z (x ∷ xs) have own =
    fold_placed ignore_null wide z x (sorted_by history_order xs) have.0 (wide_sorted wide xs have.1) (none_sorted x xs own.0)
    ∙ fold_sorted ignore_null wide (stamped ignore_null z x) xs have.1 own.1

-- ---- a sorted list is in turn

total : IsTotalOrder history_order
total = then_total (on_total (λ (e : Event). e.sequence) row_order_total) (on_total (λ (e : Event). kind_rank e.kind) nat_cmp_total)

reversed : (r s : Ordering) → s ≡ ordering_reverse r → is_gt r ≡ true → is_gt s ≡ false
reversed Less s e h = cc
reversed Equal s e h = cc
reversed Greater s e h = ap is_gt e

not_back : (x y : Event) → is_gt (history_order x y) ≡ true → is_gt (history_order y x) ≡ false
not_back x y h = reversed (history_order x y) (history_order y x) (total.antisymm y x) h

abbrev IsLow : Event → List Event → Type 0
IsLow event [] = Unit {0}
IsLow event (x ∷ xs) = (is_gt (history_order event x) ≡ false) × IsLow event xs

abbrev AreUp : List Event → Type 0
AreUp [] = Unit {0}
AreUp (event ∷ events) = IsLow event events × AreUp events

lower : (x y : Event) (zs : List Event) → is_gt (history_order x y) ≡ false → IsLow y zs → IsLow x zs
lower x y [] h low = tt
lower x y (z ∷ zs) h low = (upto total x y z h low.0, lower x y zs h low.1)

low_by : (y x z : Event) (zs more : List Event) (b : Bool) → is_gt (history_order y x) ≡ false → IsLow y (z ∷ zs) → IsLow y more → IsLow y (if b then z ∷ more else x ∷ z ∷ zs)
low_by y x z zs more true h low later = (low.0, later)
low_by y x z zs more false h low later = (h, low)

low_placed : (y x : Event) (zs : List Event) → is_gt (history_order y x) ≡ false → IsLow y zs → IsLow y (placed_by history_order x zs)
low_placed y x [] h low = (h, tt)
low_placed y x (z ∷ zs) h low = low_by y x z zs (placed_by history_order x zs) (is_gt (history_order x z)) h low (low_placed y x zs h low.1)

up_by : (x y : Event) (ys : List Event) (b : Bool) → is_gt (history_order x y) ≡ b → AreUp (y ∷ ys) → AreUp (placed_by history_order x ys)
    → AreUp (if b then y ∷ placed_by history_order x ys else x ∷ y ∷ ys)
up_by x y ys true e up later = (low_placed y x ys (not_back x y e) up.0, later)
up_by x y ys false e up later = ((e, lower x y ys e up.0), up)

up_placed : (x : Event) (ys : List Event) → AreUp ys → AreUp (placed_by history_order x ys)
up_placed x [] up = (tt, tt)
up_placed x (y ∷ ys) up = up_by x y ys (is_gt (history_order x y)) refl up (up_placed x ys up.1)

up_sorted : (xs : List Event) → AreUp (sorted_by history_order xs)
up_sorted [] = tt
up_sorted (x ∷ xs) = up_placed x (sorted_by history_order xs) (up_sorted xs)

not_gt : (o n : Ordering) → is_gt (ordering_then o n) ≡ false → is_gt o ≡ false
not_gt Less n e = refl
not_gt Equal n e = refl
not_gt Greater n e = cc

only_less : (o n : Ordering) → is_gt (ordering_then o n) ≡ false → (is_eq o && true) ≡ false → o ≡ Less
only_less Less n e c = refl
only_less Equal n e c = cc
only_less Greater n e c = cc

behind_less : (o : Ordering) → is_gt (ordering_then o Greater) ≡ false → o ≡ Less
behind_less Less e = refl
behind_less Equal e = cc
behind_less Greater e = cc

before_by : (ka kb : EventKind) (s t : Row) → is_gt (ordering_then (row_order s t) (nat_cmp (kind_rank ka) (kind_rank kb))) ≡ false
    → (same_row s t && are_alike (kind_rank ka == 0) (kind_rank kb == 0)) ≡ false → IsBeforeBy ka kb s t
before_by Truncate Upsert s t low apart = not_gt (row_order s t) (nat_cmp 0 2) low
before_by Truncate Delete s t low apart = not_gt (row_order s t) (nat_cmp 0 1) low
before_by Truncate Truncate s t low apart = only_less (row_order s t) (nat_cmp 0 0) low apart
before_by Upsert Upsert s t low apart = only_less (row_order s t) (nat_cmp 2 2) low apart
before_by Upsert Delete s t low apart = only_less (row_order s t) (nat_cmp 2 1) low apart
before_by Upsert Truncate s t low apart = behind_less (row_order s t) low
before_by Delete Upsert s t low apart = only_less (row_order s t) (nat_cmp 1 2) low apart
before_by Delete Delete s t low apart = only_less (row_order s t) (nat_cmp 1 1) low apart
before_by Delete Truncate s t low apart = behind_less (row_order s t) low

behind : (x : Event) (ys : List Event) → IsLow x ys → CollidesWithNone x ys → AllBehind x ys
behind x [] low none = tt
behind x (y ∷ ys) low none = (before_by x.kind y.kind x.sequence y.sequence low.0 none.0, behind x ys low.1 none.1)

in_turn : (xs : List Event) → AreUp xs → AreOfOwnMoments xs → AreInTurn xs
in_turn [] up own = tt
in_turn (x ∷ xs) up own = (behind x xs up.0 own.0, in_turn xs up.1 own.1)

-- the stamps tell the row that the history leaves
pub read_in_any_order : (ignore_null : Bool) (events : List Event) (wide : ℕ) → HaveWidth wide events → AreOfOwnMoments events
    → row_told (fold (stamped ignore_null) no_event events) ≡ fold (after_event ignore_null) None (sorted_by history_order events)
read_in_any_order ignore_null events wide have own =
    ap row_told (sym (fold_sorted ignore_null wide no_event events have own))
    ∙ read ignore_null (sorted_by history_order events) (in_turn (sorted_by history_order events) (up_sorted events) (own_sorted events own))
