-- How often rows are told: over keys that differ, in whatever order these stand.
use Rattle.std.proofs.Common.{◌≡◌, ℕ, ◌+◌, Bool, true, false, cond, ◌||◌, if◌then◌else◌, List, [], ◌∷◌, ◌++◌, Option, Some, None, refl, sym, ap, ◌∙◌, arith}
use Rattle.std.specs.Prelude.{filter_map}
use Rattle.std.specs.List.{cons_option, list_any, sum_by}
use Rattle.std.specs.declared.cmp.Ordering.{Ordering}
use Rattle.std.specs.declared.cmp.Ordering.TheVariants.{Less, Equal, Greater}
use Rattle.std.specs.Ordering.{is_eq}
use Rattle.std.proofs.lemmas.List.Sums.{sum_by-append, sum_by-cons}
use Rattle.value_core.specs.Bags.{count_of, net_change, surplus}
use Rattle.value_core.specs.Order.{Row, row_order, same_row}
use Rattle.value_core.specs.OrderLaws.{rows_apart, same_row_laws}
use Rattle.value_core.proofs.BagLemmas.{count-cons, one, same_list}
use Rattle.value_core.proofs.ChangeLemmas.{count-surplus}
use Rattle.cdc_current.specs.Keeping.{IsBalanced}

-- ---- counts as sums

abbrev pub here : Row → Option Row → ℕ
here row None = 0
here row (Some x) = one row x

here_cons : (row : Row) (o : Option Row) (rest : List Row) → count_of row (cons_option o rest) ≡ here row o + count_of row rest
here_cons row None rest = omega arith
here_cons row (Some x) rest = count-cons row x rest

pub count_told : {A : Type 0} (row : Row) (h : A → Option Row) (xs : List A) → count_of row (filter_map h xs) ≡ sum_by (λ x. here row (h x)) xs
count_told row h [] = refl
count_told row h (x ∷ xs) =
    here_cons row (h x) (filter_map h xs) ∙ ap (λ n. here row (h x) + n) (count_told row h xs) ∙ sym (sum_by-cons (λ y. here row (h y)) x xs)

-- ---- lists of keys that differ

abbrev pub has : Row → List Row → Bool
has key keys = list_any (same_row key) keys

abbrev pub Differ : List Row → Type 0
Differ [] = Unit {0}
Differ (x ∷ xs) = (has x xs ≡ false) × Differ xs

abbrev rid : Row → List Row → List Row
rid key [] = []
rid key (x ∷ xs) = if same_row key x then xs else x ∷ rid key xs

equal_by : (o : Ordering) → is_eq o ≡ true → o ≡ Equal
equal_by Less e = cc
equal_by Equal e = refl
equal_by Greater e = cc

pub same_is : (a b : Row) → same_row a b ≡ true → a ≡ b
same_is a b e = rows_apart a b (equal_by (row_order a b) e)

pub first_false : (a b : Bool) → (a || b) ≡ false → a ≡ false
first_false true b e = e
first_false false b e = refl

pub rest_false : (a b : Bool) → (a || b) ≡ false → b ≡ false
rest_false true b e = cc
rest_false false b e = e

has_by : (a b : Bool) → a ≡ false → b ≡ false → (a || b) ≡ false
has_by true b e f = e
has_by false b e f = f

-- a key that isn't in the list isn't in it without another
rid_lacks_by : (q key x : Row) (xs more : List Row) (b : Bool) → same_row q x ≡ false → has q xs ≡ false → has q more ≡ false → has q (if b then xs else x ∷ more) ≡ false
rid_lacks_by q key x xs more true e f g = f
rid_lacks_by q key x xs more false e f g = has_by (same_row q x) (has q more) e g

rid_lacks : (q key : Row) (xs : List Row) → has q xs ≡ false → has q (rid key xs) ≡ false
rid_lacks q key [] e = refl
rid_lacks q key (x ∷ xs) e =
    let a = first_false (same_row q x) (has q xs) e in
    let b = rest_false (same_row q x) (has q xs) e in
    rid_lacks_by q key x xs (rid key xs) (same_row key x) a b (rid_lacks q key xs b)

rid_differ_by : (key x : Row) (xs more : List Row) (b : Bool) → Differ (x ∷ xs) → has x more ≡ false → Differ more → Differ (if b then xs else x ∷ more)
rid_differ_by key x xs more true d e f = d.1
rid_differ_by key x xs more false d e f = (e, f)

rid_differ : (key : Row) (xs : List Row) → Differ xs → Differ (rid key xs)
rid_differ key [] d = tt
rid_differ key (x ∷ xs) d = rid_differ_by key x xs (rid key xs) (same_row key x) d (rid_lacks x key xs d.0) (rid_differ key xs d.1)

-- a list of keys that differ lacks the one that it is rid of
rid_itself_by : (key x : Row) (xs more : List Row) (b : Bool) → same_row key x ≡ b → has x xs ≡ false → has key more ≡ false → has key (if b then xs else x ∷ more) ≡ false
rid_itself_by key x xs more true e f g = ap (λ k. has k xs) (same_is key x e) ∙ f
rid_itself_by key x xs more false e f g = has_by (same_row key x) (has key more) e g

rid_itself : (key : Row) (xs : List Row) → Differ xs → has key (rid key xs) ≡ false
rid_itself key [] d = refl
rid_itself key (x ∷ xs) d = rid_itself_by key x xs (rid key xs) (same_row key x) refl d.0 (rid_itself key xs d.1)

-- a key that is in the list without another, and isn't that other, is in the list; told for those that are not
rid_has_by : (q key x : Row) (xs more : List Row) (b c : Bool) → same_row key x ≡ b → same_row q x ≡ c → same_row q key ≡ false → has q (if b then xs else x ∷ more) ≡ false
    → (has q more ≡ false → has q xs ≡ false) → (c || has q xs) ≡ false
rid_has_by q key x xs more true true e f apart g later = sym f ∙ sym (ap (λ k. same_row q k) (same_is key x e)) ∙ apart
rid_has_by q key x xs more true false e f apart g later = g
rid_has_by q key x xs more false c e f apart g later =
    has_by c (has q xs) (sym f ∙ first_false (same_row q x) (has q more) g) (later (rest_false (same_row q x) (has q more) g))

rid_has : (q key : Row) (xs : List Row) → same_row q key ≡ false → has q (rid key xs) ≡ false → has q xs ≡ false
rid_has q key [] apart e = refl
rid_has q key (x ∷ xs) apart e = rid_has_by q key x xs (rid key xs) (same_row key x) (same_row q x) refl refl apart e (rid_has q key xs apart)

-- ---- a sum over keys

abbrev part : (Row → ℕ) → Row → Bool → ℕ
part w key b = cond b (w key) 0

sum_rid_by : (w : Row → ℕ) (key x : Row) (xs more : List Row) (b c : Bool) → same_row key x ≡ b → c ≡ has key xs → sum_by w xs ≡ part w key (has key xs) + sum_by w more
    → sum_by w (x ∷ xs) ≡ part w key (b || c) + sum_by w (if b then xs else x ∷ more)
sum_rid_by w key x xs more true c e f later = sum_by-cons w x xs ∙ ap (λ k. w k + sum_by w xs) (sym (same_is key x e))
sum_rid_by w key x xs more false c e f later =
    omega (arith, sum_by-cons w x xs, sum_by-cons w x more, later, ap (part w key) f)

sum_rid : (w : Row → ℕ) (key : Row) (xs : List Row) → sum_by w xs ≡ part w key (has key xs) + sum_by w (rid key xs)
sum_rid w key [] = refl
sum_rid w key (x ∷ xs) = sum_rid_by w key x xs (rid key xs) (same_row key x) (has key xs) refl refl (sum_rid w key xs)

-- a weight is 0 at the keys of a list that another lacks
abbrev pub IsNothingBut : (Row → ℕ) → List Row → List Row → Type 0
IsNothingBut w xs ys = (key : Row) → has key ys ≡ false → has key xs ≡ true → w key ≡ 0

true_first : (a b : Bool) → a ≡ true → (a || b) ≡ true
true_first true b e = refl
true_first false b e = cc

true_rest : (a b : Bool) → b ≡ true → (a || b) ≡ true
true_rest true b e = refl
true_rest false b e = e

part_by : (w : Row → ℕ) (key : Row) (b : Bool) → (b ≡ false → w key ≡ 0) → part w key b ≡ w key
part_by w key true e = refl
part_by w key false e = sym (e refl)

none_zero : (w : Row → ℕ) (ys : List Row) → ((key : Row) → has key ys ≡ true → w key ≡ 0) → sum_by w ys ≡ 0
none_zero w [] e = refl
none_zero w (y ∷ ys) e =
    omega (
      arith,
      sum_by-cons w y ys,
      e y (true_first (same_row y y) (has y ys) (same_row_laws.refl y)),
      none_zero w ys (λ key is. e key (true_rest (same_row key y) (has key ys) is)),
    )

-- two lists of keys that differ have one sum, where a key that only one has weighs nothing
apart_of : (q k : Row) (ks : List Row) (b : Bool) → same_row q k ≡ b → has k ks ≡ false → has q ks ≡ true → b ≡ false
apart_of q k ks true e f g = let h : true ≡ false = sym g ∙ ap (λ z. has z ks) (same_is q k e) ∙ f in h
apart_of q k ks false e f g = refl

lacks_more : (q k : Row) (ks js : List Row) (b : Bool) → same_row q k ≡ b → has q ks ≡ false → has k (rid k js) ≡ false → has q (rid k js) ≡ true → (b || has q ks) ≡ false
lacks_more q k ks js true e f g h = let z : true ≡ false = sym h ∙ ap (λ z. has z (rid k js)) (same_is q k e) ∙ g in z
lacks_more q k ks js false e f g h = f

rid_is : (q k : Row) (js : List Row) (b : Bool) → has q js ≡ b → has q (rid k js) ≡ true → b ≡ true
rid_is q k js true e f = refl
rid_is q k js false e f = let z : true ≡ false = sym f ∙ rid_lacks q k js e in sym z

pub one_sum : (w : Row → ℕ) (ks js : List Row) → Differ ks → Differ js → IsNothingBut w ks js → IsNothingBut w js ks → sum_by w ks ≡ sum_by w js
one_sum w [] js dk dj left right = sym (none_zero w js (λ key is. right key refl is))
one_sum w (k ∷ ks) js dk dj left right =
    let first : part w k (has k js) ≡ w k = part_by w k (has k js) (λ none. left k none (true_first (same_row k k) (has k ks) (same_row_laws.refl k))) in
    let later : sum_by w ks ≡ sum_by w (rid k js) =
    one_sum w ks (rid k js) dk.1 (rid_differ k js dj)
    (λ q lacks is. left q (rid_has q k js (apart_of q k ks (same_row q k) refl dk.0 is) lacks) (true_rest (same_row q k) (has q ks) is))
    (λ q lacks is. right q (lacks_more q k ks js (same_row q k) refl lacks (rid_itself k js dj) is) (rid_is q k js (has q js) refl is)) in
    omega (arith, sum_by-cons w k ks, first, later, sum_rid w k js)

-- ---- what goes and what comes

count-append : (a : Row) (xs ys : List Row) → count_of a (xs ++ ys) ≡ count_of a xs + count_of a ys
count-append a xs ys = sum_by-append (one a) xs ys

pub balance_step : (first now after removed gone added come out more : List Row) → IsBalanced first now removed added → IsBalanced now after out more
    → gone ≡ removed ++ out → come ≡ added ++ more → IsBalanced first after gone come
balance_step first now after removed gone added come out more balanced turn goes comes row =
    omega (arith, balanced row, turn row, ap (count_of row) goes ∙ count-append row removed out, ap (count_of row) comes ∙ count-append row added more)

pub balance_net : (first now removed added : List Row) → IsBalanced first now removed added → net_change removed added ≡ net_change first now
balance_net first now removed added balanced = λ i. record {
  removed = same_list (surplus removed added) (surplus first now) (λ a. omega (arith, balanced a, count-surplus a first now, count-surplus a removed added)) i;
  added = same_list (surplus added removed) (surplus now first) (λ a. omega (arith, balanced a, count-surplus a now first, count-surplus a added removed)) i;
}
