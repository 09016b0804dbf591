-- Events in another order: what is kept of them, and the rows of SCD type 1.
use Rattle.std.proofs.Common.{◌≡◌, ℕ, Bool, true, false, cond, ◌||◌, ◌&&◌, if◌then◌else◌, List, [], ◌∷◌, fold, Option, Some, None, refl, sym, ap, ◌∙◌}
use Rattle.std.specs.Prelude.{filter_map}
use Rattle.std.specs.List.{cons_option, sum_by}
use Rattle.std.specs.declared.cmp.Ordering.{Ordering}
use Rattle.std.specs.Ordering.{is_gt}
use Rattle.value_core.specs.declared.event.Event.{Event}
use Rattle.value_core.specs.EventOrder.{is_truncate, placed_by, sorted_by}
use Rattle.value_core.specs.Order.{Row, same_row}
use Rattle.value_core.specs.OrderLaws.{same_row_laws}
use Rattle.value_core.proofs.BagLemmas.{same_list}
use Rattle.flow_model.specs.Current.{keys_of, scd1}
use Rattle.cdc_scd1.specs.Stamps.{Stamps, no_event, row_told, stamped}
use Rattle.cdc_arrivals.specs.Arrivals.{AreOfOwnMoments, CollidesWithNone, HasWidth, HaveWidth, are_alike, collide, heard, rows_told}
use Rattle.cdc_current.specs.Keeping.{HaveOwnMoments, Keeping, Keeps}
use Rattle.cdc_current.proofs.CountLemmas.{count_told, has, here, one_sum}
use Rattle.cdc_current.proofs.KeyLemmas.{differ_distinct, has_distinct, keys_in}
use Rattle.cdc_current.proofs.OwnLemmas.{own_by}
use Rattle.cdc_current.proofs.TurnLemmas.{AreTold}

-- what `stamps_take_any_order` tells
abbrev pub AreSwapped : Type 0
AreSwapped = (ignore_null : Bool) (stamps : Stamps) (a b : Event) (wide : ℕ) → HasWidth wide a → HasWidth wide b → collide a b ≡ false
    → stamped ignore_null (stamped ignore_null stamps a) b ≡ stamped ignore_null (stamped ignore_null stamps b) a

abbrev hears : Row → Event → Bool
hears key event = is_truncate event || same_row event.key key

-- an event collides with none of those that a key hears, if the key hears it
abbrev IsApart : Row → Event → List Event → Type 0
IsApart key event events = hears key event ≡ true → CollidesWithNone event (heard key events)

-- ---- an event put at its place

apart_first : (key : Row) (x y : Event) (ys : List Event) (b : Bool) → hears key y ≡ b → CollidesWithNone x (cond b (y ∷ heard key ys) (heard key ys)) → b ≡ true → collide x y ≡ false
apart_first key x y ys true e apart is = apart.0
apart_first key x y ys false e apart is = cc

apart_rest : (x y : Event) (more : List Event) (b : Bool) → CollidesWithNone x (cond b (y ∷ more) more) → CollidesWithNone x more
apart_rest x y more true apart = apart.1
apart_rest x y more false apart = apart

abbrev stamps_after : Bool → Row → Stamps → List Event → Stamps
stamps_after ignore_null key stamps events = fold (stamped ignore_null) stamps (heard key events)

swap_by : AreSwapped → (ignore_null : Bool) (wide : ℕ) (x y : Event) (more : List Event) (stamps : Stamps) (a b : Bool) → HasWidth wide x → HasWidth wide y → (a ≡ true → b ≡ true → collide x y ≡ false)
    → fold (stamped ignore_null) stamps (cond b (y ∷ cond a (x ∷ more) more) (cond a (x ∷ more) more))
    ≡ fold (stamped ignore_null) stamps (cond a (x ∷ cond b (y ∷ more) more) (cond b (y ∷ more) more))
swap_by swapped ignore_null wide x y more stamps true true wide_x wide_y apart = ap (λ s. fold (stamped ignore_null) s more) (sym (swapped ignore_null stamps x y wide wide_x wide_y (apart refl refl)))
swap_by swapped ignore_null wide x y more stamps true false wide_x wide_y apart = refl
swap_by swapped ignore_null wide x y more stamps false true wide_x wide_y apart = refl
swap_by swapped ignore_null wide x y more stamps false false wide_x wide_y apart = refl

heard_first : (ignore_null : Bool) (y : Event) (left right : List Event) (stamps : Stamps) (b : Bool)
    → ((s : Stamps) → fold (stamped ignore_null) s left ≡ fold (stamped ignore_null) s right)
    → fold (stamped ignore_null) stamps (cond b (y ∷ left) left) ≡ fold (stamped ignore_null) stamps (cond b (y ∷ right) right)
heard_first ignore_null y left right stamps true same = same (stamped ignore_null stamps y)
heard_first ignore_null y left right stamps false same = same stamps

placed_stamps_by : (ignore_null : Bool) (key : Row) (x y : Event) (ys more : List Event) (stamps : Stamps) (g : Bool)
    → stamps_after ignore_null key stamps (y ∷ more) ≡ stamps_after ignore_null key stamps (x ∷ y ∷ ys)
    → stamps_after ignore_null key stamps (if g then y ∷ more else x ∷ y ∷ ys) ≡ stamps_after ignore_null key stamps (x ∷ y ∷ ys)
placed_stamps_by ignore_null key x y ys more stamps true later = later
placed_stamps_by ignore_null key x y ys more stamps false later = refl

placed_stamps : AreSwapped → (ignore_null : Bool) (wide : ℕ) (key : Row) (order : Event → Event → Ordering) (x : Event) (ys : List Event) (stamps : Stamps) → HasWidth wide x → HaveWidth wide ys → IsApart key x ys
    → stamps_after ignore_null key stamps (placed_by order x ys) ≡ stamps_after ignore_null key stamps (x ∷ ys)
placed_stamps swapped ignore_null wide key order x [] stamps wide_x widths apart = refl
placed_stamps swapped ignore_null wide key order x (y ∷ ys) stamps wide_x widths apart =
    placed_stamps_by ignore_null key x y ys (placed_by order x ys) stamps (is_gt (order x y))
    (heard_first ignore_null y (heard key (placed_by order x ys)) (heard key (x ∷ ys)) stamps (hears key y)
    (λ s. placed_stamps swapped ignore_null wide key order x ys s wide_x widths.1 (λ is. apart_rest x y (heard key ys) (hears key y) (apart is)))
    ∙ swap_by swapped ignore_null wide x y (heard key ys) stamps (hears key x) (hears key y) wide_x widths.0 (λ a b. apart_first key x y ys (hears key y) refl (apart a) b))

-- ---- sorted events

placed_wide_by : (wide : ℕ) (x y : Event) (ys more : List Event) (g : Bool) → HasWidth wide x → HaveWidth wide (y ∷ ys) → HaveWidth wide more → HaveWidth wide (if g then y ∷ more else x ∷ y ∷ ys)
placed_wide_by wide x y ys more true mine widths later = (widths.0, later)
placed_wide_by wide x y ys more false mine widths later = (mine, widths)

placed_wide : (wide : ℕ) (order : Event → Event → Ordering) (x : Event) (ys : List Event) → HasWidth wide x → HaveWidth wide ys → HaveWidth wide (placed_by order x ys)
placed_wide wide order x [] mine widths = (mine, tt)
placed_wide wide order x (y ∷ ys) mine widths = placed_wide_by wide x y ys (placed_by order x ys) (is_gt (order x y)) mine widths (placed_wide wide order x ys mine widths.1)

sorted_wide : (wide : ℕ) (order : Event → Event → Ordering) (xs : List Event) → HaveWidth wide xs → HaveWidth wide (sorted_by order xs)
sorted_wide wide order [] widths = tt
sorted_wide wide order (x ∷ xs) widths = placed_wide wide order x (sorted_by order xs) widths.0 (sorted_wide wide order xs widths.1)

apart_cond : (z y : Event) (more : List Event) (b : Bool) → (b ≡ true → collide z y ≡ false) → CollidesWithNone z more → CollidesWithNone z (cond b (y ∷ more) more)
apart_cond z y more true mine later = (mine refl, later)
apart_cond z y more false mine later = later

apart_placed_by : (key : Row) (z x y : Event) (ys more : List Event) (g : Bool) → CollidesWithNone z (heard key (x ∷ y ∷ ys)) → (CollidesWithNone z (heard key (x ∷ ys)) → CollidesWithNone z (heard key more))
    → CollidesWithNone z (heard key (if g then y ∷ more else x ∷ y ∷ ys))
apart_placed_by key z x y ys more true apart later =
    let rest : CollidesWithNone z (heard key (y ∷ ys)) = apart_rest z x (heard key (y ∷ ys)) (hears key x) apart in
    apart_cond z y (heard key more) (hears key y) (λ is. apart_first key z y ys (hears key y) refl rest is)
    (later (apart_cond z x (heard key ys) (hears key x) (λ is. apart_first key z x (y ∷ ys) (hears key x) refl apart is) (apart_rest z y (heard key ys) (hears key y) rest)))
apart_placed_by key z x y ys more false apart later = apart

apart_placed : (key : Row) (order : Event → Event → Ordering) (z x : Event) (ys : List Event) → CollidesWithNone z (heard key (x ∷ ys)) → CollidesWithNone z (heard key (placed_by order x ys))
apart_placed key order z x [] apart = apart
apart_placed key order z x (y ∷ ys) apart = apart_placed_by key z x y ys (placed_by order x ys) (is_gt (order x y)) apart (apart_placed key order z x ys)

apart_sorted : (key : Row) (order : Event → Event → Ordering) (z : Event) (xs : List Event) → CollidesWithNone z (heard key xs) → CollidesWithNone z (heard key (sorted_by order xs))
apart_sorted key order z [] apart = apart
apart_sorted key order z (x ∷ xs) apart =
    apart_placed key order z x (sorted_by order xs)
    (apart_cond z x (heard key (sorted_by order xs)) (hears key x) (λ is. apart_first key z x xs (hears key x) refl apart is) (apart_sorted key order z xs (apart_rest z x (heard key xs) (hears key x) apart)))

first_own : (x : Event) (more : List Event) (b : Bool) → AreOfOwnMoments (cond b (x ∷ more) more) → b ≡ true → CollidesWithNone x more
first_own x more true own is = own.0
first_own x more false own is = cc

rest_own : (x : Event) (more : List Event) (b : Bool) → AreOfOwnMoments (cond b (x ∷ more) more) → AreOfOwnMoments more
rest_own x more true own = own.1
rest_own x more false own = own

sorted_stamps : AreSwapped → (ignore_null : Bool) (wide : ℕ) (key : Row) (order : Event → Event → Ordering) (xs : List Event) (stamps : Stamps) → HaveWidth wide xs → AreOfOwnMoments (heard key xs)
    → stamps_after ignore_null key stamps (sorted_by order xs) ≡ stamps_after ignore_null key stamps xs
sorted_stamps swapped ignore_null wide key order [] stamps widths own = refl
sorted_stamps swapped ignore_null wide key order (x ∷ xs) stamps widths own =
    placed_stamps swapped ignore_null wide key order x (sorted_by order xs) stamps widths.0 (sorted_wide wide order xs widths.1) (λ is. apart_sorted key order x xs (first_own x (heard key xs) (hears key x) own is))
    ∙ heard_first ignore_null x (heard key (sorted_by order xs)) (heard key xs) stamps (hears key x)
    (λ s. sorted_stamps swapped ignore_null wide key order xs s widths.1 (rest_own x (heard key xs) (hears key x) own))

-- what is kept of events is kept of them in any order
pub keeps_sorted : AreSwapped → (now : Keeping) (order : Event → Event → Ordering) (events : List Event) → HaveOwnMoments events → Keeps now events → Keeps now (sorted_by order events)
keeps_sorted swapped now order events own keeps key =
    keeps key ∙ sym (sorted_stamps swapped now.ignore_null own.wide key order events no_event own.widths (own.apart key))

-- ---- sorted events have moments of their own

alike_back : (a b : Bool) → are_alike a b ≡ are_alike b a
alike_back true true = refl
alike_back true false = refl
alike_back false true = refl
alike_back false false = refl

collide_back : (x y : Event) → collide x y ≡ false → collide y x ≡ false
collide_back x y e = (λ i. same_row_laws.symm y.sequence x.sequence i && alike_back (is_truncate y) (is_truncate x) i) ∙ e

own_placed_by : (key : Row) (order : Event → Event → Ordering) (x y : Event) (ys : List Event) (g : Bool) → AreOfOwnMoments (heard key (x ∷ y ∷ ys))
    → (AreOfOwnMoments (heard key (x ∷ ys)) → AreOfOwnMoments (heard key (placed_by order x ys)))
    → AreOfOwnMoments (heard key (if g then y ∷ placed_by order x ys else x ∷ y ∷ ys))
own_placed_by key order x y ys true own later =
    let rest : AreOfOwnMoments (heard key (y ∷ ys)) = rest_own x (heard key (y ∷ ys)) (hears key x) own in
    own_by y (heard key (placed_by order x ys)) (hears key y)
    (λ is. apart_placed key order y x ys
    (apart_cond y x (heard key ys) (hears key x) (λ mine. collide_back x y (apart_first key x y ys (hears key y) refl (first_own x (heard key (y ∷ ys)) (hears key x) own mine) is)) (first_own y (heard key ys) (hears key y) rest is)))
    (later (own_by x (heard key ys) (hears key x) (λ mine. apart_rest x y (heard key ys) (hears key y) (first_own x (heard key (y ∷ ys)) (hears key x) own mine)) (rest_own y (heard key ys) (hears key y) rest)))
own_placed_by key order x y ys false own later = own

own_placed : (key : Row) (order : Event → Event → Ordering) (x : Event) (ys : List Event) → AreOfOwnMoments (heard key (x ∷ ys)) → AreOfOwnMoments (heard key (placed_by order x ys))
own_placed key order x [] own = own
own_placed key order x (y ∷ ys) own = own_placed_by key order x y ys (is_gt (order x y)) own (own_placed key order x ys)

own_sorted : (key : Row) (order : Event → Event → Ordering) (xs : List Event) → AreOfOwnMoments (heard key xs) → AreOfOwnMoments (heard key (sorted_by order xs))
own_sorted key order [] own = own
own_sorted key order (x ∷ xs) own =
    own_placed key order x (sorted_by order xs)
    (own_by x (heard key (sorted_by order xs)) (hears key x) (λ is. apart_sorted key order x xs (first_own x (heard key xs) (hears key x) own is)) (own_sorted key order xs (rest_own x (heard key xs) (hears key x) own)))

pub moments_sorted : (order : Event → Event → Ordering) (events : List Event) → HaveOwnMoments events → HaveOwnMoments (sorted_by order events)
moments_sorted order events own = record { wide = own.wide; widths = sorted_wide own.wide order events own.widths; apart = λ key. own_sorted key order events (own.apart key) }

-- ---- the keys of sorted events

is_it : Row → Option Row → Bool
is_it key None = false
is_it key (Some k) = same_row key k

has_cons : (key : Row) (o : Option Row) (ks : List Row) → has key (cons_option o ks) ≡ (is_it key o || has key ks)
unfolding is_it
has_cons key None ks = refl
has_cons key (Some k) ks = refl

either : (a b c : Bool) → (a || (b || c)) ≡ (b || (a || c))
either true true c = refl
either true false c = refl
either false b c = refl

has_swap : (key : Row) (a b : Option Row) (ks : List Row) → has key (cons_option a (cons_option b ks)) ≡ has key (cons_option b (cons_option a ks))
has_swap key a b ks =
    has_cons key a (cons_option b ks) ∙ ap (λ t. is_it key a || t) (has_cons key b ks)
    ∙ either (is_it key a) (is_it key b) (has key ks)
    ∙ sym (has_cons key b (cons_option a ks) ∙ ap (λ t. is_it key b || t) (has_cons key a ks))

has_more : (key : Row) (o : Option Row) (xs ys : List Row) → has key xs ≡ has key ys → has key (cons_option o xs) ≡ has key (cons_option o ys)
has_more key None xs ys e = e
has_more key (Some k) xs ys e = ap (λ t. same_row key k || t) e

abbrev key_in : Event → Option Row
key_in event = if is_truncate event then None else Some event.key

has_placed_by : (key : Row) (x y : Event) (ys more : List Event) (g : Bool) → has key (keys_in (y ∷ more)) ≡ has key (keys_in (x ∷ y ∷ ys)) → has key (keys_in (if g then y ∷ more else x ∷ y ∷ ys)) ≡ has key (keys_in (x ∷ y ∷ ys))
has_placed_by key x y ys more true later = later
has_placed_by key x y ys more false later = refl

has_placed : (key : Row) (order : Event → Event → Ordering) (x : Event) (ys : List Event) → has key (keys_in (placed_by order x ys)) ≡ has key (keys_in (x ∷ ys))
has_placed key order x [] = refl
has_placed key order x (y ∷ ys) =
    has_placed_by key x y ys (placed_by order x ys) (is_gt (order x y))
    (has_more key (key_in y) (keys_in (placed_by order x ys)) (keys_in (x ∷ ys)) (has_placed key order x ys) ∙ has_swap key (key_in y) (key_in x) (keys_in ys))

has_sorted : (key : Row) (order : Event → Event → Ordering) (xs : List Event) → has key (keys_in (sorted_by order xs)) ≡ has key (keys_in xs)
has_sorted key order [] = refl
has_sorted key order (x ∷ xs) = has_placed key order x (sorted_by order xs) ∙ has_more key (key_in x) (keys_in (sorted_by order xs)) (keys_in xs) (has_sorted key order xs)

same_keys : (key : Row) (order : Event → Event → Ordering) (xs : List Event) → has key (keys_of (sorted_by order xs)) ≡ has key (keys_of xs)
same_keys key order xs = has_distinct key (keys_in (sorted_by order xs)) ∙ has_sorted key order xs ∙ sym (has_distinct key (keys_in xs))

-- ---- the rows of sorted events

neither : (n : ℕ) (a b : Bool) → a ≡ b → a ≡ false → b ≡ true → n ≡ 0
neither n true b e f g = cc
neither n false true e f g = cc
neither n false false e f g = cc

told_sorted : AreSwapped → (ignore_null : Bool) (order : Event → Event → Ordering) (events : List Event) → HaveOwnMoments events → rows_told ignore_null (sorted_by order events) ≡ rows_told ignore_null events
told_sorted swapped ignore_null order events own =
    let told : List Event → Row → Option Row = λ es key. row_told (stamps_after ignore_null key no_event es) in
    let same : (key : Row) → told (sorted_by order events) key ≡ told events key = λ key. ap row_told (sorted_stamps swapped ignore_null own.wide key order events no_event own.widths (own.apart key)) in
    same_list (filter_map (told (sorted_by order events)) (keys_of (sorted_by order events))) (filter_map (told events) (keys_of events))
    (λ row.
    let w : Row → ℕ = λ key. here row (told events key) in
    count_told row (told (sorted_by order events)) (keys_of (sorted_by order events))
    ∙ (λ i. sum_by (λ key. here row (same key i)) (keys_of (sorted_by order events)))
    ∙ one_sum w (keys_of (sorted_by order events)) (keys_of events) (differ_distinct (keys_in (sorted_by order events))) (differ_distinct (keys_in events))
    (λ key lacks is. neither (w key) (has key (keys_of events)) (has key (keys_of (sorted_by order events))) (sym (same_keys key order events)) lacks is)
    (λ key lacks is. neither (w key) (has key (keys_of (sorted_by order events))) (has key (keys_of events)) (same_keys key order events) lacks is)
    ∙ sym (count_told row (told events) (keys_of events)))

pub rows_sorted : AreSwapped → AreTold → (ignore_null : Bool) (order : Event → Event → Ordering) (events : List Event) → HaveOwnMoments events → scd1 ignore_null (sorted_by order events) ≡ scd1 ignore_null events
rows_sorted swapped told ignore_null order events own =
    let sorted : HaveOwnMoments (sorted_by order events) = moments_sorted order events own in
    sym (told ignore_null (sorted_by order events) sorted.wide sorted.widths sorted.apart)
    ∙ told_sorted swapped ignore_null order events own
    ∙ told ignore_null events own.wide own.widths own.apart
