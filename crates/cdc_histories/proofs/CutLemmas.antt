-- Events sorted, and cut where the key changes.
use Rattle.std.proofs.Common.{◌≡◌, ◌<◌, ℕ, suc, Bool, true, false, ◌&&◌, if◌then◌else◌, List, [], ◌∷◌, ◌++◌, take, drop, refl, sym, ap, ◌∙◌, subst, append_assoc, arith}
use Rattle.std.specs.declared.cmp.Ordering.{Ordering}
use Rattle.std.specs.declared.cmp.Ordering.TheVariants.{Less, Equal, Greater}
use Rattle.std.specs.Ordering.{is_eq, is_gt, nat_cmp, ordering_reverse, ordering_then}
use Rattle.std.specs.Cmp.{IsTotalOrder, on_total, then_total}
use Rattle.value_core.specs.declared.event.Event.{Event}
use Rattle.value_core.specs.EventOrder.{Fresh, event_order, is_truncate, kind_rank, placed_by, same_moment, sorted_by, standing}
use Rattle.value_core.specs.Order.{Row, row_order, same_row}
use Rattle.value_core.specs.OrderLaws.{row_order_total, rows_apart, same_row_laws}
use Rattle.event_ledger.specs.Keyed.{AreApart}
use Rattle.cdc_scd2.specs.Keys.{AreKeyed}
use Rattle.cdc_histories.specs.declared.cutting.KeyEvents.{KeyEvents}
use Rattle.cdc_histories.specs.Building.{AllAboveKey, AllLater, AreRising, IsCut, cut_by_key, events_in, joined_to, moment_order, span}
use Rattle.cdc_histories.proofs.ApplyLemmas.{fresh_placed, turned}
use Rattle.cdc_histories.proofs.TurnLemmas.{free}

-- ---- the order of moments

pub moment_total : IsTotalOrder moment_order
moment_total = then_total (on_total (λ (e : Event). e.key) row_order_total) (on_total (λ (e : Event). e.sequence) row_order_total)

later_back : (a b : Event) → moment_order a b ≡ Greater → moment_order b a ≡ Less
later_back a b e = moment_total.antisymm b a ∙ ap ordering_reverse e

pub not_equal_by : (o p : Ordering) → (is_eq o && is_eq p) ≡ false → ordering_then o p ≡ Equal → ⊥
not_equal_by Less p apart e = cc
not_equal_by Equal Less apart e = cc
not_equal_by Equal Equal apart e = cc
not_equal_by Equal Greater apart e = cc
not_equal_by Greater p apart e = cc

-- events of two moments are in the order of these, whatever their kinds
moments_alone : (o p k : Ordering) → (is_eq o && is_eq p) ≡ false → is_gt (ordering_then o (ordering_then p k)) ≡ is_gt (ordering_then o p)
moments_alone Less p k apart = refl
moments_alone Equal Less k apart = refl
moments_alone Equal Equal k apart = cc
moments_alone Equal Greater k apart = refl
moments_alone Greater p k apart = refl

less_if : (o : Ordering) → is_gt o ≡ false → (o ≡ Equal → ⊥) → o ≡ Less
less_if Less e other = refl
less_if Equal e other = absurd (other refl)
less_if Greater e other = cc

pub greater_if : (o : Ordering) → is_gt o ≡ true → o ≡ Greater
greater_if Less e = cc
greater_if Equal e = cc
greater_if Greater e = refl

by_moment : (a b : Event) → same_moment a b ≡ false → is_gt (event_order a b) ≡ is_gt (moment_order a b)
by_moment a b apart = moments_alone (row_order a.key b.key) (row_order a.sequence b.sequence) (nat_cmp (kind_rank a.kind) (kind_rank b.kind)) apart

pub comes_later : (a b : Event) → same_moment a b ≡ false → is_gt (event_order a b) ≡ false → moment_order a b ≡ Less
comes_later a b apart e = less_if (moment_order a b) (sym (by_moment a b apart) ∙ e) (not_equal_by (row_order a.key b.key) (row_order a.sequence b.sequence) apart)

pub comes_first : (a b : Event) → same_moment a b ≡ false → is_gt (event_order a b) ≡ true → moment_order b a ≡ Less
comes_first a b apart e = later_back a b (greater_if (moment_order a b) (sym (by_moment a b apart) ∙ e))

-- ---- sorted events rise

later_trans : (a b : Event) (xs : List Event) → moment_order a b ≡ Less → AllLater b xs → AllLater a xs
later_trans a b [] e all = tt
later_trans a b (x ∷ xs) e all = (moment_total.trans a b x e all.0, later_trans a b xs e all.1)

later_placed_by : (y event x : Event) (xs more : List Event) (b : Bool) → moment_order y event ≡ Less → AllLater y (x ∷ xs) → AllLater y more → AllLater y (if b then x ∷ more else event ∷ x ∷ xs)
later_placed_by y event x xs more true e all later = (all.0, later)
later_placed_by y event x xs more false e all later = (e, all)

later_placed : (y event : Event) (xs : List Event) → moment_order y event ≡ Less → AllLater y xs → AllLater y (placed_by event_order event xs)
later_placed y event [] e all = (e, tt)
later_placed y event (x ∷ xs) e all = later_placed_by y event x xs (placed_by event_order event xs) (is_gt (event_order event x)) e all (later_placed y event xs e all.1)

rising_placed_by : (event x : Event) (xs more : List Event) (b : Bool) → is_gt (event_order event x) ≡ b → same_moment event x ≡ false → AreRising (x ∷ xs) → AreRising more
    → (moment_order x event ≡ Less → AllLater x more) → AreRising (if b then x ∷ more else event ∷ x ∷ xs)
rising_placed_by event x xs more true is apart rising later all = (all (comes_first event x apart is), later)
rising_placed_by event x xs more false is apart rising later all =
    let less : moment_order event x ≡ Less = comes_later event x apart is in ((less, later_trans event x xs less rising.0), rising)

rising_placed : (event : Event) (xs : List Event) → standing xs event ≡ Fresh → AreRising xs → AreRising (placed_by event_order event xs)
rising_placed event [] fresh rising = (tt, tt)
rising_placed event (x ∷ xs) fresh rising =
    let rest = free x event xs fresh in
    rising_placed_by event x xs (placed_by event_order event xs) (is_gt (event_order event x)) refl (turned x event rest.0) rising (rising_placed event xs rest.1 rising.1)
    (λ less. later_placed x event xs less rising.0)

pub fresh_sorted : (events : List Event) (event : Event) → standing events event ≡ Fresh → standing (sorted_by event_order events) event ≡ Fresh
fresh_sorted [] event fresh = fresh
fresh_sorted (x ∷ xs) event fresh = let rest = free x event xs fresh in fresh_placed x event (sorted_by event_order xs) rest.0 (fresh_sorted xs event rest.1)

pub sorted_rising : (events : List Event) → AreApart events → AreRising (sorted_by event_order events)
sorted_rising [] apart = tt
sorted_rising (x ∷ xs) apart = rising_placed x (sorted_by event_order xs) (fresh_sorted xs x apart.0) (sorted_rising xs apart.1)

keyed_placed_by : (event x : Event) (xs more : List Event) (b : Bool) → is_truncate event ≡ false → AreKeyed (x ∷ xs) → AreKeyed more → AreKeyed (if b then x ∷ more else event ∷ x ∷ xs)
keyed_placed_by event x xs more true mine keyed later = (keyed.0, later)
keyed_placed_by event x xs more false mine keyed later = (mine, keyed)

keyed_placed : (event : Event) (xs : List Event) → is_truncate event ≡ false → AreKeyed xs → AreKeyed (placed_by event_order event xs)
keyed_placed event [] mine keyed = (mine, tt)
keyed_placed event (x ∷ xs) mine keyed = keyed_placed_by event x xs (placed_by event_order event xs) (is_gt (event_order event x)) mine keyed (keyed_placed event xs mine keyed.1)

pub sorted_keyed : (events : List Event) → AreKeyed events → AreKeyed (sorted_by event_order events)
sorted_keyed [] keyed = tt
sorted_keyed (x ∷ xs) keyed = keyed_placed x (sorted_by event_order xs) keyed.0 (sorted_keyed xs keyed.1)

-- ---- parts of rising events

equal_by : (o : Ordering) → is_eq o ≡ true → o ≡ Equal
equal_by Less e = cc
equal_by Equal e = refl
equal_by Greater e = cc

pub one_key : (a b : Row) → same_row a b ≡ true → a ≡ b
one_key a b e = rows_apart a b (equal_by (row_order a b) e)

-- no part is of a lesser key than this one
abbrev NoneBelow : Row → List KeyEvents → Type 0
NoneBelow key [] = Unit {0}
NoneBelow key (part ∷ parts) = (is_gt (row_order key part.key) ≡ false) × NoneBelow key parts

not_above : (o p : Ordering) → ordering_then o p ≡ Less → is_gt o ≡ false
not_above Less p e = refl
not_above Equal p e = refl
not_above Greater p e = cc

none_below_by : (key : Row) (x : Event) (p : KeyEvents) (ps : List KeyEvents) (b : Bool) → is_gt (row_order key x.key) ≡ false → NoneBelow key (p ∷ ps)
    → NoneBelow key (if b then record { key = p.key; events = x ∷ p.events } ∷ ps else record { key = x.key; events = x ∷ [] } ∷ p ∷ ps)
none_below_by key x p ps true e none = none
none_below_by key x p ps false e none = (e, none)

none_below_joined : (key : Row) (x : Event) (ps : List KeyEvents) → is_gt (row_order key x.key) ≡ false → NoneBelow key ps → NoneBelow key (joined_to x ps)
none_below_joined key x [] e none = (e, tt)
none_below_joined key x (p ∷ ps) e none = none_below_by key x p ps (same_row x.key p.key) e none

none_below : (event : Event) (xs : List Event) → AllLater event xs → NoneBelow event.key (cut_by_key xs)
none_below event [] all = tt
none_below event (x ∷ xs) all =
    none_below_joined event.key x (cut_by_key xs) (not_above (row_order event.key x.key) (row_order event.sequence x.sequence) all.0) (none_below event xs all.1)

later_front : (x : Event) (xs ys : List Event) → AllLater x (xs ++ ys) → AllLater x xs
later_front x [] ys all = tt
later_front x (y ∷ xs) ys all = (all.0, later_front x xs ys all.1)

above_trans : (a b : Row) (ps : List KeyEvents) → row_order a b ≡ Less → AllAboveKey b ps → AllAboveKey a ps
above_trans a b [] e all = tt
above_trans a b (p ∷ ps) e all = (row_order_total.trans a b p.key e all.0, above_trans a b ps e all.1)

not_equal : (o : Ordering) → is_eq o ≡ false → o ≡ Equal → ⊥
not_equal Less e f = cc
not_equal Equal e f = cc
not_equal Greater e f = cc

cut_more_by : (x : Event) (events : List Event) (p : KeyEvents) (ps : List KeyEvents) (b : Bool) → same_row x.key p.key ≡ b → IsCut events (p ∷ ps) → NoneBelow x.key (p ∷ ps) → AllLater x events → is_truncate x ≡ false
    → IsCut (x ∷ events) (if b then record { key = p.key; events = x ∷ p.events } ∷ ps else record { key = x.key; events = x ∷ [] } ∷ p ∷ ps)
cut_more_by x events p ps true is cut none all keyed =
    record {
      whole = ap (λ ys. x ∷ ys) cut.whole;
      each = (
        record {
          rising = (later_front x p.events (events_in ps) (subst (AllLater x) (sym cut.whole) all), cut.each.0.rising);
          own = (one_key x.key p.key is, cut.each.0.own);
          keyed = (keyed, cut.each.0.keyed);
        },
        cut.each.1,
      );
      up = cut.up;
    }
cut_more_by x events p ps false is cut none all keyed =
    let less : row_order x.key p.key ≡ Less = less_if (row_order x.key p.key) none.0 (not_equal (row_order x.key p.key) is) in
    record {
      whole = ap (λ ys. x ∷ ys) cut.whole;
      each = (record { rising = (tt, tt); own = (refl, tt); keyed = (keyed, tt) }, cut.each);
      up = ((less, above_trans x.key p.key ps less cut.up.0), cut.up);
    }

cut_more : (x : Event) (events : List Event) (ps : List KeyEvents) → IsCut events ps → NoneBelow x.key ps → AllLater x events → is_truncate x ≡ false → IsCut (x ∷ events) (joined_to x ps)
cut_more x events [] cut none all keyed =
    record { whole = ap (λ ys. x ∷ ys) cut.whole; each = (record { rising = (tt, tt); own = (refl, tt); keyed = (keyed, tt) }, tt); up = (tt, tt) }
cut_more x events (p ∷ ps) cut none all keyed = cut_more_by x events p ps (same_row x.key p.key) refl cut none all keyed

is_cut : (events : List Event) → AreRising events → AreKeyed events → IsCut events (cut_by_key events)
is_cut [] rising keyed = record { whole = refl; each = tt; up = tt }
is_cut (x ∷ xs) rising keyed = cut_more x xs (cut_by_key xs) (is_cut xs rising.1 keyed.1) (none_below x xs rising.0) rising.0 keyed.0

-- events of own moments, sorted and cut
pub sorted_cut : (events : List Event) → AreApart events → AreKeyed events → IsCut (sorted_by event_order events) (cut_by_key (sorted_by event_order events))
sorted_cut events apart keyed = is_cut (sorted_by event_order events) (sorted_rising events apart) (sorted_keyed events keyed)

-- ---- one part at the front

span_own : (x : Event) (xs : List Event) → span x.key (x ∷ xs) ≡ suc (span x.key xs)
span_own x xs = ap (λ b. if b then suc (span x.key xs) else 0) (same_row_laws.refl x.key)

pub some_first : (x : Event) (xs : List Event) (n : ℕ) → n ≡ span x.key (x ∷ xs) → 0 < n
some_first x xs n count = omega (arith, count ∙ span_own x xs)

abbrev front_of : Row → Event → List Event → ℕ → List KeyEvents
front_of key x xs n = record { key = key; events = x ∷ take n xs } ∷ cut_by_key (drop n xs)

front_by : (x y : Event) (ys : List Event) (b : Bool) → same_row x.key y.key ≡ b → cut_by_key (y ∷ ys) ≡ front_of y.key y ys (span y.key ys)
    → (if b then front_of y.key x (y ∷ ys) (suc (span y.key ys)) else record { key = x.key; events = x ∷ [] } ∷ front_of y.key y ys (span y.key ys)) ≡ front_of x.key x (y ∷ ys) (span x.key (y ∷ ys))
front_by x y ys true is whole =
    let e : y.key ≡ x.key = sym (one_key x.key y.key is) in
    let f : span x.key (y ∷ ys) ≡ suc (span x.key ys) = ap (λ b. if b then suc (span x.key ys) else 0) (same_row_laws.symm y.key x.key ∙ is) in
    ap (λ k. front_of k x (y ∷ ys) (suc (span k ys))) e ∙ ap (front_of x.key x (y ∷ ys)) (sym f)
front_by x y ys false is whole =
    let f : span x.key (y ∷ ys) ≡ 0 = ap (λ b. if b then suc (span x.key ys) else 0) (same_row_laws.symm y.key x.key ∙ is) in
    let alone : KeyEvents = record { key = x.key; events = x ∷ [] } in
    ap (λ ps. alone ∷ ps) (sym whole) ∙ ap (front_of x.key x (y ∷ ys)) (sym f)

cut_front : (x : Event) (xs : List Event) → cut_by_key (x ∷ xs) ≡ front_of x.key x xs (span x.key xs)
cut_front x [] = refl
cut_front x (y ∷ ys) = ap (joined_to x) (cut_front y ys) ∙ front_by x y ys (same_row x.key y.key) refl (cut_front y ys)

front_is : (x : Event) (xs more : List Event) (part : KeyEvents) (n : ℕ) → n ≡ span x.key (x ∷ xs) → part.key ≡ x.key → part.events ≡ take n (x ∷ xs) → more ≡ drop n (x ∷ xs)
    → part ∷ cut_by_key more ≡ front_of x.key x xs (span x.key xs)
front_is x xs more part n count key events rest =
    let e : n ≡ suc (span x.key xs) = count ∙ span_own x xs in
    let f : part.events ≡ x ∷ take (span x.key xs) xs = events ∙ ap (λ m. take m (x ∷ xs)) e in
    let g : more ≡ drop (span x.key xs) xs = rest ∙ ap (λ m. drop m (x ∷ xs)) e in
    λ i. record { key = key i; events = f i } ∷ cut_by_key (g i)

-- the parts so far, and one more of the events of the first key that are left
pub cut_next : (x : Event) (xs more : List Event) (made after whole : List KeyEvents) (part : KeyEvents) (n : ℕ) → n ≡ span x.key (x ∷ xs) → part.key ≡ x.key → part.events ≡ take n (x ∷ xs) → more ≡ drop n (x ∷ xs)
    → after ≡ made ++ part ∷ [] → made ++ cut_by_key (x ∷ xs) ≡ whole → after ++ cut_by_key more ≡ whole
cut_next x xs more made after whole part n count key events rest is before =
    ap (λ ps. ps ++ cut_by_key more) is
    ∙ append_assoc made (part ∷ []) (cut_by_key more)
    ∙ ap (λ ps. made ++ ps) (front_is x xs more part n count key events rest ∙ sym (cut_front x xs))
    ∙ before
