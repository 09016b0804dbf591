-- Tests that all items of a list pass, through what is made of the list.
use Rattle.std.proofs.Common.{◌≡◌, ℕ, zero, suc, List, [], ◌∷◌, ◌++◌, map, length, Bool, true, false, cond, if◌then◌else◌, Option, Some, None, Result, Ok, refl, sym, ap, ◌∙◌, subst, flat_map, filter, filter_map, slice_get, slice_index_or}
use Rattle.std.specs.Prelude.{unwrap_or}
use Rattle.std.specs.List.{cons_option, list_all}
use Rattle.std.specs.Ordering.{is_gt}
use Rattle.std.specs.Result.{result_unwrap_or}
use Rattle.std.specs.declared.cmp.Ordering.{Ordering}
use Rattle.std.proofs.lemmas.Bool.{and_from, and_parts}
use Rattle.value_core.specs.declared.event.Event.{Event}
use Rattle.value_core.specs.declared.value.Kind.{Kind}
use Rattle.value_core.specs.declared.value.Value.TheVariants.{Null}
use Rattle.value_core.specs.Bags.{in_row_order, placed}
use Rattle.value_core.specs.EventOrder.{placed_by, sorted_by}
use Rattle.value_core.specs.Fits.{row_fits, value_fits}
use Rattle.value_core.specs.Order.{Row, row_order}
use Rattle.plan_core.specs.Sound.{all_there}

pub some_is : {A : Type 0} (a b : A) → Some a ≡ Some b → a ≡ b
some_is a b e = ap (λ o. unwrap_or o a) e

pub ok_is : {A E : Type 0} (a b : A) (r : Result A E) → r ≡ Ok a → r ≡ Ok b → a ≡ b
ok_is a b r e f = ap (λ s. result_unwrap_or s a) (sym e ∙ f)

pub head_of : {A : Type 0} (test : A → Bool) (x : A) (xs : List A) → list_all test (x ∷ xs) ≡ true → test x ≡ true
head_of test x xs h = (and_parts (test x) (list_all test xs) h).0

pub tail_of : {A : Type 0} (test : A → Bool) (x : A) (xs : List A) → list_all test (x ∷ xs) ≡ true → list_all test xs ≡ true
tail_of test x xs h = (and_parts (test x) (list_all test xs) h).1

pub both_of : {A : Type 0} (test : A → Bool) (x : A) (xs : List A) → test x ≡ true → list_all test xs ≡ true → list_all test (x ∷ xs) ≡ true
both_of test x xs h k = and_from (test x) (list_all test xs) h k

pub all_append : {A : Type 0} (test : A → Bool) (xs ys : List A) → list_all test xs ≡ true → list_all test ys ≡ true → list_all test (xs ++ ys) ≡ true
all_append test [] ys h k = k
all_append test (x ∷ xs) ys h k = both_of test x (xs ++ ys) (head_of test x xs h) (all_append test xs ys (tail_of test x xs h) k)

picked_by : {A : Type 0} (test : A → Bool) (o : Option A) (rest : List A) → ((a : A) → o ≡ Some a → test a ≡ true) → list_all test rest ≡ true → list_all test (cons_option o rest) ≡ true
picked_by test None rest f r = r
picked_by test (Some a) rest f r = both_of test a rest (f a refl) r

-- what is picked of items of which each gives what passes
pub all_picked : {X A : Type 0} (test : A → Bool) (given : X → Bool) (h : X → Option A) → ((x : X) → given x ≡ true → (a : A) → h x ≡ Some a → test a ≡ true)
    → (xs : List X) → list_all given xs ≡ true → list_all test (filter_map h xs) ≡ true
all_picked test given h f [] all = refl
all_picked test given h f (x ∷ xs) all = picked_by test (h x) (filter_map h xs) (f x (head_of given x xs all)) (all_picked test given h f xs (tail_of given x xs all))

pub all_mapped : {X A : Type 0} (test : A → Bool) (given : X → Bool) (h : X → A) → ((x : X) → given x ≡ true → test (h x) ≡ true) → (xs : List X) → list_all given xs ≡ true → list_all test (map h xs) ≡ true
all_mapped test given h f [] all = refl
all_mapped test given h f (x ∷ xs) all = both_of test (h x) (map h xs) (f x (head_of given x xs all)) (all_mapped test given h f xs (tail_of given x xs all))

pub all_flat : {X A : Type 0} (test : A → Bool) (h : X → List A) → ((x : X) → list_all test (h x) ≡ true) → (xs : List X) → list_all test (flat_map h xs) ≡ true
all_flat test h f [] = refl
all_flat test h f (x ∷ xs) = all_append test (h x) (flat_map h xs) (f x) (all_flat test h f xs)

-- nothing is asked
pub all_true : {A : Type 0} (xs : List A) → list_all (λ x. true) xs ≡ true
all_true [] = refl
all_true (x ∷ xs) = all_true xs

filtered_by : {A : Type 0} (test : A → Bool) (x : A) (rest : List A) (b : Bool) → test x ≡ true → list_all test rest ≡ true → list_all test (cond b (x ∷ rest) rest) ≡ true
filtered_by test x rest true h r = both_of test x rest h r
filtered_by test x rest false h r = r

pub all_filtered : {A : Type 0} (test keep : A → Bool) (xs : List A) → list_all test xs ≡ true → list_all test (filter keep xs) ≡ true
all_filtered test keep [] all = refl
all_filtered test keep (x ∷ xs) all = filtered_by test x (filter keep xs) (keep x) (head_of test x xs all) (all_filtered test keep xs (tail_of test x xs all))

-- ---- sorted lists

row_by : (test : Row → Bool) (row x : Row) (xs behind : List Row) (b : Bool) → test row ≡ true → test x ≡ true → list_all test xs ≡ true → list_all test behind ≡ true → list_all test (if b then x ∷ behind else row ∷ x ∷ xs) ≡ true
row_by test row x xs behind true h k r s = both_of test x behind k s
row_by test row x xs behind false h k r s = both_of test row (x ∷ xs) h (both_of test x xs k r)

all_placed : (test : Row → Bool) (row : Row) (xs : List Row) → test row ≡ true → list_all test xs ≡ true → list_all test (placed row xs) ≡ true
all_placed test row [] h all = both_of test row [] h refl
all_placed test row (x ∷ xs) h all =
    row_by test row x xs (placed row xs) (is_gt (row_order row x)) h (head_of test x xs all) (tail_of test x xs all) (all_placed test row xs h (tail_of test x xs all))

pub all_in_order : (test : Row → Bool) (xs : List Row) → list_all test xs ≡ true → list_all test (in_row_order xs) ≡ true
all_in_order test [] all = refl
all_in_order test (x ∷ xs) all = all_placed test x (in_row_order xs) (head_of test x xs all) (all_in_order test xs (tail_of test x xs all))

event_by : (test : Event → Bool) (event x : Event) (xs behind : List Event) (b : Bool) → test event ≡ true → test x ≡ true → list_all test xs ≡ true → list_all test behind ≡ true
    → list_all test (if b then x ∷ behind else event ∷ x ∷ xs) ≡ true
event_by test event x xs behind true h k r s = both_of test x behind k s
event_by test event x xs behind false h k r s = both_of test event (x ∷ xs) h (both_of test x xs k r)

all_placed_by : (test : Event → Bool) (order : Event → Event → Ordering) (event : Event) (xs : List Event) → test event ≡ true → list_all test xs ≡ true → list_all test (placed_by order event xs) ≡ true
all_placed_by test order event [] h all = both_of test event [] h refl
all_placed_by test order event (x ∷ xs) h all =
    event_by test event x xs (placed_by order event xs) (is_gt (order event x)) h (head_of test x xs all) (tail_of test x xs all) (all_placed_by test order event xs h (tail_of test x xs all))

pub all_sorted : (test : Event → Bool) (order : Event → Event → Ordering) (xs : List Event) → list_all test xs ≡ true → list_all test (sorted_by order xs) ≡ true
all_sorted test order [] all = refl
all_sorted test order (x ∷ xs) all = all_placed_by test order x (sorted_by order xs) (head_of test x xs all) (all_sorted test order xs (tail_of test x xs all))

-- ---- rows and kinds

pub rows_join : (ks ls : List Kind) (r s : Row) → row_fits ks r ≡ true → row_fits ls s ≡ true → row_fits (ks ++ ls) (r ++ s) ≡ true
rows_join [] ls [] s h k = k
rows_join [] ls (v ∷ r) s h k = cc
rows_join (a ∷ ks) ls [] s h k = cc
rows_join (a ∷ ks) ls (v ∷ r) s h k =
    let parts = and_parts (value_fits a v) (row_fits ks r) h in and_from (value_fits a v) (row_fits (ks ++ ls) (r ++ s)) parts.0 (rows_join ks ls r s parts.1 k)

-- the value at a place that has a kind
pub value_at : (kinds : List Kind) (row : Row) (at : ℕ) (k : Kind) → row_fits kinds row ≡ true → slice_get kinds at ≡ Some k → value_fits k (slice_index_or row at Null) ≡ true
value_at [] row at k fits is = cc
value_at (l ∷ kinds) [] at k fits is = cc
value_at (l ∷ kinds) (v ∷ row) zero k fits is = subst (λ z. value_fits z v ≡ true) (some_is l k is) (and_parts (value_fits l v) (row_fits kinds row) fits).0
value_at (l ∷ kinds) (v ∷ row) (suc at) k fits is = value_at kinds row at k (and_parts (value_fits l v) (row_fits kinds row) fits).1 is

-- ---- lists where each item is there

pub record First {A : Type 0} (o : Option A) (rest : List (Option A)) (all : List A) : Type 0 where
  pub item : A
  pub others : List A
  pub is_item : o ≡ Some item
  pub are_others : all_there rest ≡ Some others
  pub is_all : item ∷ others ≡ all

there_with : {A : Type 0} (a : A) (rest : List (Option A)) (all : List A) (r : Option (List A)) → all_there rest ≡ r → all_there (Some a ∷ rest) ≡ Some all → First (Some a) rest all
there_with a rest all None is e = let none : None ≡ Some all = rw is at e in cc
there_with a rest all (Some others) is e = record {
  item = a;
  others = others;
  is_item = refl;
  are_others = is;
  is_all = some_is (a ∷ others) all (rw is at e);
}

pub first_there : {A : Type 0} (o : Option A) (rest : List (Option A)) (all : List A) → all_there (o ∷ rest) ≡ Some all → First o rest all
first_there None rest all e = cc
first_there (Some a) rest all e = there_with a rest all (all_there rest) refl e

pub there_length : {A : Type 0} (os : List (Option A)) (all : List A) → all_there os ≡ Some all → length all ≡ length os
there_length {A} [] all e = ap (length {A = A}) (sym (some_is [] all e))
there_length {A} (o ∷ os) all e = let f = first_there o os all e in ap (length {A = A}) (sym f.is_all) ∙ ap suc (there_length os f.others f.are_others)
