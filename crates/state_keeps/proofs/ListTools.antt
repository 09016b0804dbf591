-- Tests that all items of a list pass, and the rows of a table through its changes.
use Rattle.std.proofs.Common.{◌≡◌, ℕ, zero, suc, List, [], ◌∷◌, ◌++◌, take, drop, Bool, true, false, if◌then◌else◌, refl}
use Rattle.std.specs.List.{list_all}
use Rattle.std.specs.Ordering.{is_gt}
use Rattle.std.specs.declared.cmp.Ordering.{Ordering}
use Rattle.std.proofs.lemmas.Bool.{and_from, and_parts}
use Rattle.value_core.specs.declared.change.Change.{Change}
use Rattle.value_core.specs.declared.event.Event.{Event}
use Rattle.value_core.specs.declared.schema.Column.{Column}
use Rattle.value_core.specs.Bags.{changed, in_row_order, placed, surplus, without}
use Rattle.value_core.specs.EventOrder.{placed_by, sorted_by}
use Rattle.value_core.specs.Order.{Row, row_order, same_row}
use Rattle.net_changes.specs.Chains.{content_after}
use Rattle.state_model.specs.Follows.{all_fit, is_row_of}

pub head_of : {A : Type 0} (test : A → Bool) (x : A) (xs : List A) → list_all test (x ∷ xs) ≡ true → test x ≡ true
head_of test x xs h = (and_parts (test x) (list_all test xs) h).0

pub tail_of : {A : Type 0} (test : A → Bool) (x : A) (xs : List A) → list_all test (x ∷ xs) ≡ true → list_all test xs ≡ true
tail_of test x xs h = (and_parts (test x) (list_all test xs) h).1

pub both_of : {A : Type 0} (test : A → Bool) (x : A) (xs : List A) → test x ≡ true → list_all test xs ≡ true → list_all test (x ∷ xs) ≡ true
both_of test x xs h k = and_from (test x) (list_all test xs) h k

pub all_append : {A : Type 0} (test : A → Bool) (xs ys : List A) → list_all test xs ≡ true → list_all test ys ≡ true → list_all test (xs ++ ys) ≡ true
all_append test [] ys h k = k
all_append test (x ∷ xs) ys h k = both_of test x (xs ++ ys) (head_of test x xs h) (all_append test xs ys (tail_of test x xs h) k)

pub all_taken : {A : Type 0} (test : A → Bool) (n : ℕ) (xs : List A) → list_all test xs ≡ true → list_all test (take n xs) ≡ true
all_taken test zero xs all = refl
all_taken test (suc n) [] all = refl
all_taken test (suc n) (x ∷ xs) all = both_of test x (take n xs) (head_of test x xs all) (all_taken test n xs (tail_of test x xs all))

pub all_dropped : {A : Type 0} (test : A → Bool) (n : ℕ) (xs : List A) → list_all test xs ≡ true → list_all test (drop n xs) ≡ true
all_dropped test zero xs all = all
all_dropped test (suc n) [] all = refl
all_dropped test (suc n) (x ∷ xs) all = all_dropped test n xs (tail_of test x xs all)

-- ---- sorted lists

placed_by_test : {A : Type 0} (test : A → Bool) (a x : A) (xs behind : List A) (b : Bool) → test a ≡ true → test x ≡ true → list_all test xs ≡ true → list_all test behind ≡ true → list_all test (if b then x ∷ behind else a ∷ x ∷ xs) ≡ true
placed_by_test test a x xs behind true h k r s = both_of test x behind k s
placed_by_test test a x xs behind false h k r s = both_of test a (x ∷ xs) h (both_of test x xs k r)

all_placed : (test : Row → Bool) (row : Row) (xs : List Row) → test row ≡ true → list_all test xs ≡ true → list_all test (placed row xs) ≡ true
all_placed test row [] h all = both_of test row [] h refl
all_placed test row (x ∷ xs) h all =
    placed_by_test test row x xs (placed row xs) (is_gt (row_order row x)) h (head_of test x xs all) (tail_of test x xs all) (all_placed test row xs h (tail_of test x xs all))

pub all_in_order : (test : Row → Bool) (xs : List Row) → list_all test xs ≡ true → list_all test (in_row_order xs) ≡ true
all_in_order test [] all = refl
all_in_order test (x ∷ xs) all = all_placed test x (in_row_order xs) (head_of test x xs all) (all_in_order test xs (tail_of test x xs all))

all_placed_by : (test : Event → Bool) (order : Event → Event → Ordering) (event : Event) (xs : List Event) → test event ≡ true → list_all test xs ≡ true → list_all test (placed_by order event xs) ≡ true
all_placed_by test order event [] h all = both_of test event [] h refl
all_placed_by test order event (x ∷ xs) h all =
    placed_by_test test event x xs (placed_by order event xs) (is_gt (order event x)) h (head_of test x xs all) (tail_of test x xs all) (all_placed_by test order event xs h (tail_of test x xs all))

pub all_sorted : (test : Event → Bool) (order : Event → Event → Ordering) (xs : List Event) → list_all test xs ≡ true → list_all test (sorted_by order xs) ≡ true
all_sorted test order [] all = refl
all_sorted test order (x ∷ xs) all = all_placed_by test order x (sorted_by order xs) (head_of test x xs all) (all_sorted test order xs (tail_of test x xs all))

-- ---- a table through its changes

module _ (test : Row → Bool) where
  without_by : (x : Row) (xs rest : List Row) (b : Bool) → test x ≡ true → list_all test xs ≡ true → list_all test rest ≡ true → list_all test (if b then xs else x ∷ rest) ≡ true
  without_by x xs rest true h all r = all
  without_by x xs rest false h all r = both_of test x rest h r

  all_without : (row : Row) (xs : List Row) → list_all test xs ≡ true → list_all test (without row xs) ≡ true
  all_without row [] all = refl
  all_without row (x ∷ xs) all = without_by x xs (without row xs) (same_row row x) (head_of test x xs all) (tail_of test x xs all) (all_without row xs (tail_of test x xs all))

  all_surplus : (xs ys : List Row) → list_all test xs ≡ true → list_all test (surplus xs ys) ≡ true
  all_surplus xs [] all = all
  all_surplus xs (y ∷ ys) all = all_surplus (without y xs) ys (all_without y xs all)

module _ (columns : List Column) where
  abbrev pub adds_fit : Change → Bool
  adds_fit change = all_fit columns change.added

  changed_fits : (rows : List Row) (change : Change) → all_fit columns rows ≡ true → adds_fit change ≡ true → all_fit columns (changed rows change) ≡ true
  changed_fits rows change all adds =
      all_in_order (is_row_of columns) (surplus rows change.removed ++ change.added)
      (all_append (is_row_of columns) (surplus rows change.removed) change.added (all_surplus (is_row_of columns) rows change.removed all) adds)

  -- the rows after changes fit
  pub after_fits : (rows : List Row) (changes : List Change) → all_fit columns rows ≡ true → list_all adds_fit changes ≡ true → all_fit columns (content_after rows changes) ≡ true
  after_fits rows [] all adds = all
  after_fits rows (change ∷ changes) all adds =
      after_fits (changed rows change) changes (changed_fits rows change all (head_of adds_fit change changes adds)) (tail_of adds_fit change changes adds)
