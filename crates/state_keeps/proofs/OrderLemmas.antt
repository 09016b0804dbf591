-- Events that are sorted stand by key and then by sequence, where no two are of one moment.
use Rattle.std.proofs.Common.{◌≡◌, Bool, true, false, not, ◌&&◌, ◌||◌, if◌then◌else◌, List, [], ◌∷◌, ◌++◌, refl, sym, ap, ◌∙◌}
use Rattle.std.specs.Prelude.{⊤}
use Rattle.std.specs.List.{list_any}
use Rattle.std.specs.declared.cmp.Ordering.{Ordering}
use Rattle.std.specs.declared.cmp.Ordering.TheVariants.{Less, Equal, Greater}
use Rattle.std.specs.Ordering.{is_eq, is_gt, is_lt, nat_cmp, ordering_reverse, ordering_then}
use Rattle.std.proofs.lemmas.Bool.{and_from, and_parts}
use Rattle.value_core.specs.declared.event.Event.{Event}
use Rattle.value_core.specs.EventOrder.{event_order, kind_rank, placed_by, same_moment, sorted_by}
use Rattle.value_core.specs.Order.{Row, row_order}
use Rattle.value_core.specs.OrderLaws.{row_order_total}
use Rattle.commit_payloads.specs.Forms.{are_ascending, comes_before, is_before_first}
use Rattle.state_model.specs.Follows.{are_new}

-- ---- two events

before_by : (keys sequences ranks : Ordering) → (is_eq keys && is_eq sequences) ≡ false → is_gt (ordering_then keys (ordering_then sequences ranks)) ≡ false → is_lt (ordering_then keys sequences) ≡ true
before_by Less sequences ranks apart low = refl
before_by Greater sequences ranks apart low = cc
before_by Equal Less ranks apart low = refl
before_by Equal Equal ranks apart low = cc
before_by Equal Greater ranks apart low = cc

behind_by : (keys sequences ranks : Ordering) → (is_eq keys && is_eq sequences) ≡ false → is_gt (ordering_then keys (ordering_then sequences ranks)) ≡ true → is_lt (ordering_then (ordering_reverse keys) (ordering_reverse sequences)) ≡ true
behind_by Less sequences ranks apart high = cc
behind_by Greater sequences ranks apart high = refl
behind_by Equal Less ranks apart high = cc
behind_by Equal Equal ranks apart high = cc
behind_by Equal Greater ranks apart high = refl

is_before : (a b : Event) → same_moment a b ≡ false → is_gt (event_order a b) ≡ false → comes_before a b ≡ true
is_before a b apart low = before_by (row_order a.key b.key) (row_order a.sequence b.sequence) (nat_cmp (kind_rank a.kind) (kind_rank b.kind)) apart low

is_behind : (a b : Event) → same_moment a b ≡ false → is_gt (event_order a b) ≡ true → comes_before b a ≡ true
is_behind a b apart high =
    (λ i. is_lt (ordering_then (row_order_total.antisymm b.key a.key i) (row_order_total.antisymm b.sequence a.sequence i)))
    ∙ behind_by (row_order a.key b.key) (row_order a.sequence b.sequence) (nat_cmp (kind_rank a.kind) (kind_rank b.kind)) apart high

turned : (r s : Ordering) → s ≡ ordering_reverse r → is_eq s ≡ is_eq r
turned Less s e = ap is_eq e
turned Equal s e = ap is_eq e
turned Greater s e = ap is_eq e

same_back : (a b : Event) → same_moment a b ≡ same_moment b a
same_back a b = λ i. turned (row_order b.key a.key) (row_order a.key b.key) (row_order_total.antisymm a.key b.key) i && turned (row_order b.sequence a.sequence) (row_order a.sequence b.sequence) (row_order_total.antisymm a.sequence b.sequence) i

-- ---- one event among others

none_by : (a b : Bool) → (a || b) ≡ false → (a ≡ false) × (b ≡ false)
none_by true b e = cc
none_by false b e = (refl, e)

none_from : (a b : Bool) → a ≡ false → b ≡ false → (a || b) ≡ false
none_from true b e f = cc
none_from false b e f = f

first_by : (x e y : Event) (ys behind : List Event) (b : Bool) → comes_before x e ≡ true → comes_before x y ≡ true → is_before_first x (if b then y ∷ behind else e ∷ y ∷ ys) ≡ true
first_by x e y ys behind true h j = j
first_by x e y ys behind false h j = h

first_placed : (x e : Event) (xs : List Event) → comes_before x e ≡ true → is_before_first x xs ≡ true → is_before_first x (placed_by event_order e xs) ≡ true
first_placed x e [] h j = h
first_placed x e (y ∷ ys) h j = first_by x e y ys (placed_by event_order e ys) (is_gt (event_order e y)) h j

placed_by_test : (e x : Event) (xs : List Event) (b : Bool) → is_gt (event_order e x) ≡ b → same_moment e x ≡ false → is_before_first x xs ≡ true → are_ascending xs ≡ true → are_ascending (placed_by event_order e xs) ≡ true
    → are_ascending (if b then x ∷ placed_by event_order e xs else e ∷ x ∷ xs) ≡ true
placed_by_test e x xs true is apart first rest behind =
    and_from (is_before_first x (placed_by event_order e xs)) (are_ascending (placed_by event_order e xs)) (first_placed x e xs (is_behind e x apart is) first) behind
placed_by_test e x xs false is apart first rest behind =
    and_from (comes_before e x) (are_ascending (x ∷ xs)) (is_before e x apart is) (and_from (is_before_first x xs) (are_ascending xs) first rest)

placed_ascends : (e : Event) (xs : List Event) → list_any (same_moment e) xs ≡ false → are_ascending xs ≡ true → are_ascending (placed_by event_order e xs) ≡ true
placed_ascends e [] apart all = refl
placed_ascends e (x ∷ xs) apart all =
    let aparts = none_by (same_moment e x) (list_any (same_moment e) xs) apart in
    let parts = and_parts (is_before_first x xs) (are_ascending xs) all in
    placed_by_test e x xs (is_gt (event_order e x)) refl aparts.0 parts.0 parts.1 (placed_ascends e xs aparts.1 parts.1)

any_by : (test : Event → Bool) (e x : Event) (xs behind : List Event) (b : Bool) → test e ≡ false → test x ≡ false → list_any test xs ≡ false → list_any test behind ≡ false → list_any test (if b then x ∷ behind else e ∷ x ∷ xs) ≡ false
any_by test e x xs behind true h j r s = none_from (test x) (list_any test behind) j s
any_by test e x xs behind false h j r s = none_from (test e) (test x || list_any test xs) h (none_from (test x) (list_any test xs) j r)

any_placed : (test : Event → Bool) (e : Event) (xs : List Event) → test e ≡ false → list_any test xs ≡ false → list_any test (placed_by event_order e xs) ≡ false
any_placed test e [] h none = none_from (test e) false h refl
any_placed test e (x ∷ xs) h none =
    let parts = none_by (test x) (list_any test xs) none in any_by test e x xs (placed_by event_order e xs) (is_gt (event_order e x)) h parts.0 parts.1 (any_placed test e xs h parts.1)

any_sorted : (test : Event → Bool) (xs : List Event) → list_any test xs ≡ false → list_any test (sorted_by event_order xs) ≡ false
any_sorted test [] none = refl
any_sorted test (x ∷ xs) none = let parts = none_by (test x) (list_any test xs) none in any_placed test x (sorted_by event_order xs) parts.0 (any_sorted test xs parts.1)

-- ---- all events

-- an event is one of these
abbrev IsOne : Event → List Event → Type 0
IsOne x kept = (test : Event → Bool) → test x ≡ true → list_any test kept ≡ true

any_more : (test : Event → Bool) (xs ys : List Event) → list_any test xs ≡ true → list_any test (xs ++ ys) ≡ true
any_more test [] ys h = cc
any_more test (x ∷ xs) ys h = by (test x) (list_any test xs) (list_any test (xs ++ ys)) (any_more test xs ys) h
  where
    by : (p q r : Bool) → (q ≡ true → r ≡ true) → (p || q) ≡ true → (p || r) ≡ true
    by true q r f k = refl
    by false q r f k = f k

last_one : (x : Event) (kept : List Event) → IsOne x (kept ++ x ∷ [])
last_one x [] test h = ap (λ (b : Bool). b || false) h
last_one x (k ∷ kept) test h = by (test k) (list_any test (kept ++ x ∷ [])) (last_one x kept test h)
  where
    by : (p q : Bool) → q ≡ true → (p || q) ≡ true
    by true q f = refl
    by false q f = f

apart_by : (x y : Event) (kept : List Event) (b : Bool) → same_moment y x ≡ b → IsOne x kept → not (list_any (same_moment y) kept) ≡ true → same_moment x y ≡ false
apart_by x y kept true is one none = absurd (clash (list_any (same_moment y) kept) (one (same_moment y) is) none)
  where
    clash : (b : Bool) → b ≡ true → not b ≡ true → ⊥
    clash true e f = cc
    clash false e f = cc
apart_by x y kept false is one none = same_back x y ∙ is

-- an event that is kept is of no moment of those that are new beside it
apart_new : (x : Event) (kept xs : List Event) → IsOne x kept → are_new kept xs ≡ true → list_any (same_moment x) xs ≡ false
apart_new x kept [] one new = refl
apart_new x kept (y ∷ ys) one new =
    let parts = and_parts (not (list_any (same_moment y) kept)) (are_new (kept ++ y ∷ []) ys) new in
    none_from (same_moment x y) (list_any (same_moment x) ys) (apart_by x y kept (same_moment y x) refl one parts.0)
    (apart_new x (kept ++ y ∷ []) ys (λ test h. any_more test kept (y ∷ []) (one test h)) parts.1)

-- ---- ascending events are of different moments

before_trans_by : (k1 k2 k3 s1 s2 s3 : Ordering) → (k1 ≡ Less → k2 ≡ Less → k3 ≡ Less) → (k1 ≡ Equal → k3 ≡ k2) → (k2 ≡ Equal → k3 ≡ k1) → (s1 ≡ Less → s2 ≡ Less → s3 ≡ Less)
    → is_lt (ordering_then k1 s1) ≡ true → is_lt (ordering_then k2 s2) ≡ true → is_lt (ordering_then k3 s3) ≡ true
before_trans_by Less Less k3 s1 s2 s3 less left right behind h j = rw (less refl refl) refl
before_trans_by Less Equal k3 s1 s2 s3 less left right behind h j = rw (right refl) refl
before_trans_by Less Greater k3 s1 s2 s3 less left right behind h j = cc
before_trans_by Greater k2 k3 s1 s2 s3 less left right behind h j = cc
before_trans_by Equal Less k3 s1 s2 s3 less left right behind h j = rw (left refl) refl
before_trans_by Equal Greater k3 s1 s2 s3 less left right behind h j = cc
before_trans_by Equal Equal k3 s1 s2 s3 less left right behind h j = rw (left refl, behind (is_less s1 h) (is_less s2 j)) refl
  where
    is_less : (o : Ordering) → is_lt o ≡ true → o ≡ Less
    is_less Less e = refl
    is_less Equal e = cc
    is_less Greater e = cc

-- a tie on the right leaves the order as it is
tie_right : (a b c : Row) → row_order b c ≡ Equal → row_order a c ≡ row_order a b
tie_right a b c e =
    row_order_total.antisymm a c ∙ ap ordering_reverse (sym (row_order_total.congr b c a e)) ∙ sym (row_order_total.antisymm a b)

before_trans : (a b c : Event) → comes_before a b ≡ true → comes_before b c ≡ true → comes_before a c ≡ true
before_trans a b c h j =
    before_trans_by (row_order a.key b.key) (row_order b.key c.key) (row_order a.key c.key) (row_order a.sequence b.sequence) (row_order b.sequence c.sequence) (row_order a.sequence c.sequence)
    (row_order_total.trans a.key b.key c.key) (row_order_total.congr a.key b.key c.key) (tie_right a.key b.key c.key) (row_order_total.trans a.sequence b.sequence c.sequence) h j

other_moment : (keys sequences : Ordering) → is_lt (ordering_then keys sequences) ≡ true → (is_eq keys && is_eq sequences) ≡ false
other_moment Less sequences h = refl
other_moment Greater sequences h = refl
other_moment Equal Less h = refl
other_moment Equal Equal h = cc
other_moment Equal Greater h = refl

-- an event that comes before the first of ascending events is of none of their moments
apart_from : (a : Event) (xs : List Event) → is_before_first a xs ≡ true → are_ascending xs ≡ true → list_any (same_moment a) xs ≡ false
apart_from a [] first all = refl
apart_from a (x ∷ xs) first all =
    let parts = and_parts (is_before_first x xs) (are_ascending xs) all in
    none_from (same_moment a x) (list_any (same_moment a) xs) (other_moment (row_order a.key x.key) (row_order a.sequence x.sequence) first) (apart_from a xs (further xs parts.0) parts.1)
  where
    further : (ys : List Event) → is_before_first x ys ≡ true → is_before_first a ys ≡ true
    further [] h = refl
    further (y ∷ ys) h = before_trans a x y first h

-- events of which none is of an earlier moment, from the last one back
abbrev pub AreApart : List Event → Type 0
AreApart [] = ⊤
AreApart (x ∷ xs) = (list_any (same_moment x) xs ≡ false) × AreApart xs

ascending_apart : (xs : List Event) → are_ascending xs ≡ true → AreApart xs
ascending_apart [] all = tt
ascending_apart (x ∷ xs) all = let parts = and_parts (is_before_first x xs) (are_ascending xs) all in (apart_from x xs parts.0 parts.1, ascending_apart xs parts.1)

new_apart : (kept xs : List Event) → are_new kept xs ≡ true → AreApart xs
new_apart kept [] new = tt
new_apart kept (x ∷ xs) new =
    let parts = and_parts (not (list_any (same_moment x) kept)) (are_new (kept ++ x ∷ []) xs) new in (apart_new x (kept ++ x ∷ []) xs (last_one x kept) parts.1, new_apart (kept ++ x ∷ []) xs parts.1)

any_none : (test : Event → Bool) (xs ys : List Event) → list_any test xs ≡ false → list_any test ys ≡ false → list_any test (xs ++ ys) ≡ false
any_none test [] ys h k = k
any_none test (x ∷ xs) ys h k = let parts = none_by (test x) (list_any test xs) h in none_from (test x) (list_any test (xs ++ ys)) parts.0 (any_none test xs ys parts.1 k)

both_apart : (whole xs ys : List Event) → ((x : Event) → IsOne x xs → IsOne x whole) → AreApart xs → are_new whole ys ≡ true → AreApart ys → AreApart (xs ++ ys)
both_apart whole [] ys among apart new behind = behind
both_apart whole (x ∷ xs) ys among apart new behind = (
  any_none (same_moment x) xs ys apart.0 (apart_new x whole ys (among x (λ test h. ap (λ (b : Bool). b || list_any test xs) h)) new),
  both_apart whole xs ys (λ y is. among y (λ test h. more (test x) (list_any test xs) (is test h))) apart.1 new behind,
)
  where
    more : (p q : Bool) → q ≡ true → (p || q) ≡ true
    more true q f = refl
    more false q f = f

apart_ascends : (xs : List Event) → AreApart xs → are_ascending (sorted_by event_order xs) ≡ true
apart_ascends [] apart = refl
apart_ascends (x ∷ xs) apart = placed_ascends x (sorted_by event_order xs) (any_sorted (same_moment x) xs apart.0) (apart_ascends xs apart.1)

-- kept events with new ones beside them, once they are sorted, ascend
pub events_ascend : (kept new : List Event) → are_ascending kept ≡ true → are_new kept new ≡ true → are_ascending (sorted_by event_order (kept ++ new)) ≡ true
events_ascend kept new all fresh = apart_ascends (kept ++ new) (both_apart kept kept new (λ x is. is) (ascending_apart kept all) fresh (new_apart kept new fresh))

-- events of which none is of an earlier moment ascend once they are sorted
pub sorted_ascends : (kept xs : List Event) → are_new kept xs ≡ true → are_ascending (sorted_by event_order xs) ≡ true
sorted_ascends kept xs new = apart_ascends xs (new_apart kept xs new)
