-- What a change of the shares does to the groups and to the result of a query.
use Rattle.std.proofs.Common.{◌≡◌, ℕ, ℤ, pos, negsuc, suc, ◌+ℤ◌, Bool, true, false, not, cond, if◌then◌else◌, List, [], ◌∷◌, length, map, filter, filter_map, refl, sym, ap, ◌∙◌, arith}
use Rattle.std.proofs.lemmas.Int.{ints}
use Rattle.std.specs.List.{sum_by, fold, enumerate_from, slice_index_or}
use Rattle.std.proofs.lemmas.List.Sums.{sum_by-cons}
use Rattle.value_core.specs.declared.value.Value.{Value}
use Rattle.value_core.specs.declared.value.Value.TheVariants.{Null, Big}
use Rattle.value_core.specs.Bags.{count_of, in_row_order, IsInOrder}
use Rattle.value_core.specs.Order.{Row, same_row, is_null}
use Rattle.value_core.specs.OrderLaws.{same_row_laws}
use Rattle.value_core.proofs.BagLemmas.{one, count-cons, count-in_row_order, order-in_row_order}
use Rattle.row_expr.specs.Eval.{number_of}
use Rattle.plan_core.specs.declared.query.Item.{Item}
use Rattle.plan_core.specs.declared.query.Item.TheVariants as item
use Rattle.plan_core.specs.declared.query.Query.{Query}
use Rattle.flow_model.specs.Current.{distinct}
use Rattle.plan_core.specs.Sound.{is_empty, is_grouped}
use Rattle.flow_model.specs.Views.{Share, groups_of, known_values, total, least, greatest, item_value, members_of, group_row, sum_stop, sum_stops, result_rows}
use Rattle.view_laws.specs.Weights.{IsOneBag, Moves}
use Rattle.view_laws.specs.Touched.{is_there, rows_of_groups, Touches}
use Rattle.view_laws.proofs.Weighing.{sum-map, sum-filter, moves-map, moves-filter, sum-in_row_order}
use Rattle.view_laws.proofs.Best.{best, best_of_bag, least_ranks, greatest_ranks, below, above}
use Rattle.view_laws.proofs.Groups.{some, HasGroups, count-distinct, groups_move}

-- ---- bags of shares and of values

bag-map : {A B : Type 0} (f : A → B) (xs ys : List A) → IsOneBag xs ys → IsOneBag (map f xs) (map f ys)
bag-map f xs ys bag = record { sums = λ w. sum-map w f xs ∙ bag.sums (λ x. w (f x)) ∙ sym (sum-map w f ys) }

bag-filter : {A : Type 0} (p : A → Bool) (xs ys : List A) → IsOneBag xs ys → IsOneBag (filter p xs) (filter p ys)
bag-filter p xs ys bag = record { sums = λ w. sum-filter w p xs ∙ bag.sums (λ x. cond (p x) (w x) 0) ∙ sym (sum-filter w p ys) }

length-sum : {A : Type 0} (xs : List A) → length xs ≡ sum_by (λ _. 1) xs
length-sum [] = refl
length-sum (x ∷ xs) = omega (arith, length-sum xs, sum_by-cons (λ _. 1) x xs)

pub bag-length : {A : Type 0} (xs ys : List A) → IsOneBag xs ys → length xs ≡ length ys
bag-length xs ys bag = length-sum xs ∙ bag.sums (λ _. 1) ∙ sym (length-sum ys)

pub known_bag : (at : ℕ) (xs ys : List Share) → IsOneBag xs ys → IsOneBag (known_values at xs) (known_values at ys)
known_bag at xs ys bag =
    let f = λ (r : Share). slice_index_or r.values at Null in
    bag-filter (λ value. not (is_null value)) (map f xs) (map f ys) (bag-map f xs ys bag)

-- ---- exact totals

up : ℤ → ℕ
up (pos n) = n
up (negsuc n) = 0

down : ℤ → ℕ
down (pos n) = 0
down (negsuc n) = suc n

both-sides : (z : ℤ) → z +ℤ pos (down z) ≡ pos (up z)
unfolding up down
both-sides (pos n) = omega (arith, ints)
both-sides (negsuc n) = omega (arith, ints)

total-from : (z : ℤ) (vs : List Value) → fold (λ sum value. sum +ℤ number_of value) z vs +ℤ pos (sum_by (λ v. down (number_of v)) vs) ≡ z +ℤ pos (sum_by (λ v. up (number_of v)) vs)
total-from z [] = refl
total-from z (v ∷ vs) = omega (
  arith,
  ints,
  total-from (z +ℤ number_of v) vs,
  both-sides (number_of v),
  sum_by-cons (λ v. down (number_of v)) v vs,
  sum_by-cons (λ v. up (number_of v)) v vs,
)

pub total_bag : (xs ys : List Value) → IsOneBag xs ys → total xs ≡ total ys
total_bag xs ys bag = omega (arith, ints, total-from (pos 0) xs, total-from (pos 0) ys, bag.sums (λ v. down (number_of v)), bag.sums (λ v. up (number_of v)))

-- ---- least and greatest

pub least_best : (vs : List Value) → least vs ≡ best below vs
least_best [] = refl
least_best (v ∷ vs) = refl

pub greatest_best : (vs : List Value) → greatest vs ≡ best above vs
greatest_best [] = refl
greatest_best (v ∷ vs) = refl

pub least_bag : (xs ys : List Value) → IsOneBag xs ys → least xs ≡ least ys
least_bag xs ys bag = least_best xs ∙ best_of_bag least_ranks xs ys (λ v. bag.sums _) ∙ sym (least_best ys)

pub greatest_bag : (xs ys : List Value) → IsOneBag xs ys → greatest xs ≡ greatest ys
greatest_bag xs ys bag = greatest_best xs ∙ best_of_bag greatest_ranks xs ys (λ v. bag.sums _) ∙ sym (greatest_best ys)

-- ---- the row of a group, and its sums that stop

empty-bag : {A : Type 0} (xs ys : List A) → length xs ≡ length ys → is_empty xs ≡ is_empty ys
empty-bag [] [] e = refl
empty-bag [] (y ∷ ys) e = absurd (let none : ⊥ = omega arith in none)
empty-bag (x ∷ xs) [] e = absurd (let none : ⊥ = omega arith in none)
empty-bag (x ∷ xs) (y ∷ ys) e = refl

summed : (xs ys : List Value) → is_empty xs ≡ is_empty ys → total xs ≡ total ys → (if is_empty xs then Null else Big (total xs)) ≡ (if is_empty ys then Null else Big (total ys))
summed xs ys e t = λ i. if e i then Null else Big (t i)

item_value_bag : (it : Item) (group : Row) (n m : ℕ) (xs ys : List Value) → n ≡ m → IsOneBag xs ys → item_value it group n xs ≡ item_value it group m ys
item_value_bag (item.Key at) group n m xs ys e bag = refl
item_value_bag (item.Plain x) group n m xs ys e bag = refl
item_value_bag item.CountAll group n m xs ys e bag = ap (λ k. Big (pos k)) e
item_value_bag (item.Count x) group n m xs ys e bag = ap (λ k. Big (pos k)) (bag-length xs ys bag)
item_value_bag (item.Sum x) group n m xs ys e bag = summed xs ys (empty-bag xs ys (bag-length xs ys bag)) (total_bag xs ys bag)
item_value_bag (item.Min x) group n m xs ys e bag = least_bag xs ys bag
item_value_bag (item.Max x) group n m xs ys e bag = greatest_bag xs ys bag

row_of_bag : (query : Query) (old new : List Share) (group : Row) → IsOneBag (members_of group old) (members_of group new) → group_row query old group ≡ group_row query new group
row_of_bag query old new group bag = λ i. map
    (λ placed. item_value_bag placed.1 group (length (members_of group old)) (length (members_of group new)) (known_values placed.0 (members_of group old)) (known_values placed.0 (members_of group new))
    (bag-length (members_of group old) (members_of group new) bag) (known_bag placed.0 (members_of group old) (members_of group new) bag) i) (enumerate_from 0 query.items)

pub stops_of_bag : (query : Query) (old new : List Share) (group : Row) → IsOneBag (members_of group old) (members_of group new) → sum_stops query old group ≡ sum_stops query new group
stops_of_bag query old new group bag = λ i. filter_map
    (λ placed. sum_stop group placed.1 (total_bag (known_values placed.0 (members_of group old)) (known_values placed.0 (members_of group new))
    (known_bag placed.0 (members_of group old) (members_of group new) bag) i)) (enumerate_from 0 query.items)

-- ---- which groups are there

members-count : (group : Row) (shares : List Share) → count_of group (map (λ r. r.group) shares) ≡ length (members_of group shares)
members-count group shares =
    sum-map (one group) (λ r. r.group) shares ∙ ap (λ (f : Share → ℕ). sum_by f shares) (λ i r. cond (same_row_laws.symm group r.group i) 1 0)
    ∙ sym (length-sum (members_of group shares) ∙ sum-filter (λ _. 1) (λ r. same_row r.group group) shares)

some-length : {A : Type 0} (xs : List A) → some (length xs) ≡ not (is_empty xs)
some-length [] = refl
some-length (x ∷ xs) = refl

has-groups-by : (query : Query) (shares : List Share) (a : Row) (test : Bool)
    → count_of a (if test then [] ∷ [] else in_row_order (distinct (map (λ r. r.group) shares))) ≡ cond (if test then same_row a [] else not (is_empty (members_of a shares))) 1 0
has-groups-by query shares a true = omega (arith, count-cons a [] [])
has-groups-by query shares a false =
    count-in_row_order a (distinct (map (λ r. r.group) shares)) ∙ count-distinct a (map (λ r. r.group) shares)
    ∙ ap (λ t. cond t 1 0) (ap some (members-count a shares) ∙ some-length (members_of a shares))

pub has_groups : (query : Query) (shares : List Share) → HasGroups (is_there query shares) (groups_of query shares)
has_groups query shares = record { count = λ a. has-groups-by query shares a (is_empty query.groups) }

order-groups-by : (shares : List Share) (test : Bool) → IsInOrder (if test then [] ∷ [] else in_row_order (distinct (map (λ r. r.group) shares)))
order-groups-by shares true = (tt, tt)
order-groups-by shares false = order-in_row_order (distinct (map (λ r. r.group) shares))

pub order_groups : (query : Query) (shares : List Share) → IsInOrder (groups_of query shares)
order_groups query shares = order-groups-by shares (is_empty query.groups)

there-by : (group : Row) (old new : List Share) (test : Bool) → IsOneBag (members_of group old) (members_of group new)
    → (if test then same_row group [] else not (is_empty (members_of group old))) ≡ (if test then same_row group [] else not (is_empty (members_of group new)))
there-by group old new true bag = refl
there-by group old new false bag = ap not (empty-bag (members_of group old) (members_of group new) (bag-length (members_of group old) (members_of group new) bag))

pub there_of_bag : (query : Query) (old new : List Share) (group : Row) → IsOneBag (members_of group old) (members_of group new) → is_there query old group ≡ is_there query new group
there_of_bag query old new group bag = there-by group old new (is_empty query.groups) bag

-- ---- what isn't touched stays

none-moved : {A : Type 0} (old out more new : List A) → Moves old out more new → out ≡ [] → more ≡ [] → IsOneBag old new
none-moved old out more new moves o m = record { sums = λ w. omega (arith, moves.sums w, ap (sum_by w) o, ap (sum_by w) m) }

pub untouched_bag : (touched : List Row) (old out more new : List Share) → Touches touched out more → Moves old out more new → (group : Row) → count_of group touched ≡ 0
    → IsOneBag (members_of group old) (members_of group new)
untouched_bag touched old out more new touches moves group none = none-moved (members_of group old) (members_of group out) (members_of group more) (members_of group new)
    (moves-filter (λ r. same_row r.group group) old out more new moves) (touches.none_out group none) (touches.none_more group none)

-- ---- the result

sorted-moves : (old old' out more new new' : List Row) → Moves old out more new → ((w : Row → ℕ) → sum_by w old' ≡ sum_by w old) → ((w : Row → ℕ) → sum_by w new' ≡ sum_by w new) → Moves old' out more new'
sorted-moves old old' out more new new' moves same same' = record { sums = λ w. omega (arith, moves.sums w, same w, same' w) }

-- the rows of a query that groups move by those of the touched groups
pub grouped_moves : (query : Query) (touched : List Row) (old out more new : List Share) → is_grouped query ≡ true → Touches touched out more → Moves old out more new
    → Moves (result_rows query old) (rows_of_groups query old touched) (rows_of_groups query new touched) (result_rows query new)
grouped_moves query touched old out more new e touches moves =
    let f = group_row query old in
    let f' = group_row query new in
    let g = groups_of query old in
    let g' = groups_of query new in
    let stays : (a : Row) → count_of a touched ≡ 0 → IsOneBag (members_of a old) (members_of a new) = untouched_bag touched old out more new touches moves in
    sorted-moves (map f g) (result_rows query old) (rows_of_groups query old touched) (rows_of_groups query new touched) (map f' g') (result_rows query new)
    (groups_move f f' (is_there query old) (is_there query new) g g' touched (has_groups query old) (has_groups query new) touches.once
    (λ a none. there_of_bag query old new a (stays a none)) (λ a none. row_of_bag query old new a (stays a none)))
    (λ w. rw e (sum-in_row_order w (map f g))) (λ w. rw e (sum-in_row_order w (map f' g')))

-- the rows of a query without groups and aggregates move by the projections of the rows that go and come
pub plain_moves : (query : Query) (old out more new : List Share) → is_grouped query ≡ false → Moves old out more new
    → Moves (result_rows query old) (map (λ r. r.values) out) (map (λ r. r.values) more) (result_rows query new)
plain_moves query old out more new e moves =
    let f = λ (r : Share). r.values in
    sorted-moves (map f old) (result_rows query old) (map f out) (map f more) (map f new) (result_rows query new) (moves-map f old out more new moves)
    (λ w. rw e (sum-in_row_order w (map f old))) (λ w. rw e (sum-in_row_order w (map f new)))
