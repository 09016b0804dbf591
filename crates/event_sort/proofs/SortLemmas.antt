-- A list is sorted in one way, where items that an order doesn't tell apart stay as they stand.
use Rattle.std.proofs.Common.{◌≡◌, ℕ, suc, ◌<◌, ◌≤◌, Bool, true, false, cond, List, [], ◌∷◌, length, get_or, refl, sym, ap, ◌∙◌, subst, arith}
use Rattle.std.specs.Prelude.{⊤, not, ◌&&◌, if◌then◌else◌}
use Rattle.std.specs.declared.cmp.Ordering.{Ordering}
use Rattle.std.specs.declared.cmp.Ordering.TheVariants.{Less, Equal, Greater}
use Rattle.std.specs.Cmp.{IsStrictWeakOrder, IsTotalOrder, then_total, on_total, nat_cmp_total}
use Rattle.std.specs.List.{filter}
use Rattle.std.specs.List.Sorted.{IsSortedBy, IsStableBy, ties}
use Rattle.std.specs.Ordering.{is_gt, is_lt, ordering_reverse}
use Rattle.std.proofs.lemmas.List.Sorted.{ranks_by, sorted_far}
use Rattle.value_core.specs.declared.event.Event.{Event}
use Rattle.value_core.specs.EventOrder.{event_order, kind_rank, placed_by, sorted_by}
use Rattle.value_core.specs.OrderLaws.{row_order_total}

by_cases : (test : Bool) {P : Type 0} → (test ≡ true → P) → (test ≡ false → P) → P
by_cases true f g = f refl
by_cases false f g = g refl

-- ---- the order

abbrev pub below : (Event → Event → Ordering) → Event → Event → Bool
below order x y = is_lt (order x y)

pub weak : (order : Event → Event → Ordering) → IsTotalOrder order → IsStrictWeakOrder (below order)
weak order total = ranks_by total (λ (event : Event). event)

turned : (o : Ordering) → is_gt (ordering_reverse o) ≡ is_lt o
turned Less = refl
turned Equal = refl
turned Greater = refl

above : (order : Event → Event → Ordering) → IsTotalOrder order → (x y : Event) → is_gt (order x y) ≡ below order y x
above order total x y = ap is_gt (total.antisymm x y) ∙ turned (order y x)

pub event_total : IsTotalOrder event_order
event_total =
    then_total (on_total (λ (event : Event). event.key) row_order_total)
    (then_total (on_total (λ (event : Event). event.sequence) row_order_total) (on_total (λ (event : Event). kind_rank event.kind) nat_cmp_total))

-- ---- items that tie

ties_to : (a b : Bool) → (not a && not b) ≡ true → (a ≡ false) × (b ≡ false)
ties_to true b e = let wrong : ⊥ = cc in absurd wrong
ties_to false true e = let wrong : ⊥ = cc in absurd wrong
ties_to false false e = (refl, refl)

itself : (lt : Event → Event → Bool) → IsStrictWeakOrder lt → (x : Event) → lt x x ≡ false
itself lt o x = by_cases (lt x x) (λ t. o.one_way x x t) (λ f. f)

ties_itself : (lt : Event → Event → Bool) → IsStrictWeakOrder lt → (x : Event) → ties lt x x ≡ true
ties_itself lt o x = let none : lt x x ≡ false = itself lt o x in rw none refl

filter_in : (test : Event → Bool) (x : Event) (xs : List Event) → test x ≡ true → filter test (x ∷ xs) ≡ x ∷ filter test xs
filter_in test x xs e = rw e refl

filter_out : (test : Event → Bool) (x : Event) (xs : List Event) → test x ≡ false → filter test (x ∷ xs) ≡ filter test xs
filter_out test x xs e = rw e refl

-- ---- lists that ascend

-- no item of a list is below this one
abbrev NoneBelow : (Event → Event → Bool) → Event → List Event → Type 0
NoneBelow lt x [] = ⊤
NoneBelow lt x (y ∷ ys) = (lt y x ≡ false) × NoneBelow lt x ys

-- no item is below an earlier one
abbrev IsUp : (Event → Event → Bool) → List Event → Type 0
IsUp lt [] = ⊤
IsUp lt (x ∷ xs) = NoneBelow lt x xs × IsUp lt xs

none_below : (lt : Event → Event → Bool) (x : Event) (xs : List Event) → ((k : ℕ) (d : Event) → k < length xs → lt (get_or xs k d) x ≡ false) → NoneBelow lt x xs
none_below lt x [] all = tt
none_below lt x (y ∷ ys) all = (all 0 y (omega arith), none_below lt x ys (λ k d h. all (suc k) d (omega (arith, h))))

up_from : (lt : Event → Event → Bool) (xs : List Event) → ((i j : ℕ) (d : Event) → i ≤ j → j < length xs → lt (get_or xs j d) (get_or xs i d) ≡ false) → IsUp lt xs
up_from lt [] far = tt
up_from lt (x ∷ xs) far =
    (none_below lt x xs (λ k d h. far 0 (suc k) d (omega arith) (omega (arith, h))), up_from lt xs (λ i j d le h. far (suc i) (suc j) d (omega (arith, le)) (omega (arith, h))))

none_far : (lt : Event → Event → Bool) → IsStrictWeakOrder lt → (x y : Event) (ys : List Event) → lt y x ≡ false → NoneBelow lt y ys → NoneBelow lt x ys
none_far lt o x y [] h up = tt
none_far lt o x y (z ∷ ys) h up = (o.chain z y x up.0 h, none_far lt o x y ys h up.1)

-- ---- two lists that ascend and have the same ties are one

tie_above : (lt : Event → Event → Bool) → IsStrictWeakOrder lt → (x y z : Event) (xs zs : List Event) → NoneBelow lt x xs → filter (ties lt y) xs ≡ z ∷ zs → lt y x ≡ false
tie_above lt o x y z [] zs up e = let wrong : ⊥ = cc in absurd wrong
tie_above lt o x y z (w ∷ xs) zs up e =
    by_cases (ties lt y w)
    (λ t. o.chain y w x (ties_to (lt y w) (lt w y) t).0 up.0)
    (λ f. tie_above lt o x y z xs zs up.1 (sym (filter_out (ties lt y) w xs f) ∙ e))

head_above : (lt : Event → Event → Bool) → IsStrictWeakOrder lt → (x y : Event) (xs ys : List Event) → NoneBelow lt x xs → filter (ties lt y) (x ∷ xs) ≡ filter (ties lt y) (y ∷ ys) → lt y x ≡ false
head_above lt o x y xs ys up same = tie_above lt o x y y (x ∷ xs) (filter (ties lt y) ys) (itself lt o x, up) (same ∙ filter_in (ties lt y) y ys (ties_itself lt o y))

abbrev head_or : Event → List Event → Event
head_or d [] = d
head_or d (x ∷ xs) = x

abbrev tail_of : List Event → List Event
tail_of [] = []
tail_of (x ∷ xs) = xs

tails : (lt : Event → Event → Bool) (a x y : Event) (xs ys : List Event) → x ≡ y → filter (ties lt a) (x ∷ xs) ≡ filter (ties lt a) (y ∷ ys) → filter (ties lt a) xs ≡ filter (ties lt a) ys
tails lt a x y xs ys is same =
    by_cases (ties lt a x)
    (λ t.
    let too : ties lt a y ≡ true = subst (λ z. ties lt a z ≡ true) is t in
    ap tail_of (sym (filter_in (ties lt a) x xs t) ∙ same ∙ filter_in (ties lt a) y ys too))
    (λ f.
    let too : ties lt a y ≡ false = subst (λ z. ties lt a z ≡ false) is f in
    sym (filter_out (ties lt a) x xs f) ∙ same ∙ filter_out (ties lt a) y ys too)

one_sorted : (lt : Event → Event → Bool) → IsStrictWeakOrder lt → (xs ys : List Event) → IsUp lt xs → IsUp lt ys → ((a : Event) → filter (ties lt a) xs ≡ filter (ties lt a) ys) → xs ≡ ys
one_sorted lt o [] [] ux uy same = refl
one_sorted lt o [] (y ∷ ys) ux uy same =
    let e : ◌≡◌ {A = List Event} [] (y ∷ filter (ties lt y) ys) = same y ∙ filter_in (ties lt y) y ys (ties_itself lt o y) in
    let wrong : ⊥ = cc in
    absurd wrong
one_sorted lt o (x ∷ xs) [] ux uy same =
    let e : ◌≡◌ {A = List Event} (x ∷ filter (ties lt x) xs) [] = sym (filter_in (ties lt x) x xs (ties_itself lt o x)) ∙ same x in
    let wrong : ⊥ = cc in
    absurd wrong
one_sorted lt o (x ∷ xs) (y ∷ ys) ux uy same =
    let not_less : lt y x ≡ false = head_above lt o x y xs ys ux.0 (same y) in
    let not_more : lt x y ≡ false = head_above lt o y x ys xs uy.0 (sym (same x)) in
    let tie : ties lt x y ≡ true = rw (not_more, not_less) refl in
    let heads : x ∷ filter (ties lt x) xs ≡ y ∷ filter (ties lt x) ys = sym (filter_in (ties lt x) x xs (ties_itself lt o x)) ∙ same x ∙ filter_in (ties lt x) y ys tie in
    let is : x ≡ y = ap (head_or x) heads in
    let rest = one_sorted lt o xs ys ux.1 uy.1 (λ a. tails lt a x y xs ys is (same a)) in
    λ i. is i ∷ rest i

-- ---- the sorted list ascends

none_if : (lt : Event → Event → Bool) (a : Event) (test : Bool) (xs ys : List Event) → NoneBelow lt a xs → NoneBelow lt a ys → NoneBelow lt a (if test then xs else ys)
none_if lt a true xs ys h k = h
none_if lt a false xs ys h k = k

placed_none : (order : Event → Event → Ordering) (a x : Event) (xs : List Event) → NoneBelow (below order) a xs → below order x a ≡ false → NoneBelow (below order) a (placed_by order x xs)
placed_none order a x [] up low = (low, tt)
placed_none order a x (y ∷ ys) up low =
    none_if (below order) a (is_gt (order x y)) (y ∷ placed_by order x ys) (x ∷ y ∷ ys) (up.0, placed_none order a x ys up.1 low) (low, up)

up_if : (lt : Event → Event → Bool) (test : Bool) (xs ys : List Event) → (test ≡ true → IsUp lt xs) → (test ≡ false → IsUp lt ys) → IsUp lt (if test then xs else ys)
up_if lt true xs ys f g = f refl
up_if lt false xs ys f g = g refl

placed_up : (order : Event → Event → Ordering) → IsTotalOrder order → (x : Event) (xs : List Event) → IsUp (below order) xs → IsUp (below order) (placed_by order x xs)
placed_up order total x [] up = (tt, tt)
placed_up order total x (y ∷ ys) up =
    let o = weak order total in
    up_if (below order) (is_gt (order x y)) (y ∷ placed_by order x ys) (x ∷ y ∷ ys)
    (λ t.
    let less : below order y x ≡ true = sym (above order total x y) ∙ t in
    (placed_none order y x ys up.0 (o.one_way y x less), placed_up order total x ys up.1))
    (λ f.
    let not_less : below order y x ≡ false = sym (above order total x y) ∙ f in
    ((not_less, none_far (below order) o x y ys not_less up.0), up))

sorted_up : (order : Event → Event → Ordering) → IsTotalOrder order → (xs : List Event) → IsUp (below order) (sorted_by order xs)
sorted_up order total [] = tt
sorted_up order total (x ∷ xs) = placed_up order total x (sorted_by order xs) (sorted_up order total xs)

-- ---- and keeps its ties

not_both : (lt : Event → Event → Bool) → IsStrictWeakOrder lt → (a x y : Event) → lt y x ≡ true → ties lt a y ≡ true → ties lt a x ≡ false
not_both lt o a x y less tie =
    by_cases (ties lt a x)
    (λ t.
    let never : lt y x ≡ false = o.chain y a x (ties_to (lt a y) (lt y a) tie).1 (ties_to (lt a x) (lt x a) t).0 in
    let both : true ≡ false = sym less ∙ never in
    let wrong : ⊥ = cc in
    absurd wrong)
    (λ f. f)

passed : (lt : Event → Event → Bool) → IsStrictWeakOrder lt → (a x y : Event) (more ys : List Event) → lt y x ≡ true → filter (ties lt a) more ≡ filter (ties lt a) (x ∷ ys) → filter (ties lt a) (y ∷ more) ≡ filter (ties lt a) (x ∷ y ∷ ys)
passed lt o a x y more ys less same =
    by_cases (ties lt a y)
    (λ t.
    let out : ties lt a x ≡ false = not_both lt o a x y less t in
    filter_in (ties lt a) y more t ∙ ap (λ rest. y ∷ rest) (same ∙ filter_out (ties lt a) x ys out) ∙ sym (filter_in (ties lt a) y ys t)
    ∙ sym (filter_out (ties lt a) x (y ∷ ys) out))
    (λ f. filter_out (ties lt a) y more f ∙ same ∙ ap (λ rest. cond (ties lt a x) (x ∷ rest) rest) (sym (filter_out (ties lt a) y ys f)))

placed_stable : (order : Event → Event → Ordering) → IsTotalOrder order → (a x : Event) (xs : List Event) → filter (ties (below order) a) (placed_by order x xs) ≡ filter (ties (below order) a) (x ∷ xs)
placed_stable order total a x [] = refl
placed_stable order total a x (y ∷ ys) =
    by_cases (is_gt (order x y))
    (λ t.
    let less : below order y x ≡ true = sym (above order total x y) ∙ t in
    let is : placed_by order x (y ∷ ys) ≡ y ∷ placed_by order x ys = rw t refl in
    ap (filter (ties (below order) a)) is ∙ passed (below order) (weak order total) a x y (placed_by order x ys) ys less (placed_stable order total a x ys))
    (λ f.
    let is : placed_by order x (y ∷ ys) ≡ x ∷ y ∷ ys = rw f refl in
    ap (filter (ties (below order) a)) is)

sorted_stable : (order : Event → Event → Ordering) → IsTotalOrder order → (a : Event) (xs : List Event) → filter (ties (below order) a) (sorted_by order xs) ≡ filter (ties (below order) a) xs
sorted_stable order total a [] = refl
sorted_stable order total a (x ∷ xs) =
    placed_stable order total a x (sorted_by order xs) ∙ ap (λ rest. cond (ties (below order) a x) (x ∷ rest) rest) (sorted_stable order total a xs)

-- what a stable sort gives is the sorted list
pub sorted_is : (order : Event → Event → Ordering) → IsTotalOrder order → (xs ys : List Event) → IsSortedBy (below order) ys → IsStableBy (below order) xs ys → ys ≡ sorted_by order xs
sorted_is order total xs ys up stable =
    let o = weak order total in
    one_sorted (below order) o ys (sorted_by order xs) (up_from (below order) ys (sorted_far (below order) o ys up)) (sorted_up order total xs) (λ a. stable a ∙ sym (sorted_stable order total a xs))
