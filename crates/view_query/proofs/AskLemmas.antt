-- What a plain pass gives is what the query gives.
use Rattle.std.proofs.Common.{◌≡◌, ℕ, suc, ◌+◌, ◌<◌, true, false, cond, if◌then◌else◌, List, [], ◌∷◌, ◌++◌, length, map, filter_map, take, drop, get_or, append_assoc, Option, Some, None, Result, Ok, Err, refl, sym, ap, ◌∙◌, subst, arith}
use Rattle.std.specs.Prelude.{is_some}
use Rattle.std.specs.List.{cons_option, slice_index_or}
use Rattle.std.proofs.lemmas.List.{take_more, drop_more}
use Rattle.std.proofs.lemmas.List.Elements.{filter_map-append}
use Rattle.std.specs.List.Sorted.{IsPermutation, IsSorted}
use Rattle.std.specs.Option.{option_or}
use Rattle.std.specs.declared.cmp.Ordering.{Ordering}
use Rattle.std.specs.declared.cmp.Ordering.TheVariants.{Less, Equal, Greater}
use Rattle.std.specs.Ordering.{is_gt, is_lt, ordering_reverse}
use Rattle.std.proofs.lemmas.List.Sorted.{sum_by-IsPermutation}
use Rattle.value_core.specs.Bags.{in_row_order, IsInOrder}
use Rattle.value_core.specs.Order.{Row, row_order, same_row}
use Rattle.value_core.specs.OrderLaws.{row_order_total}
use Rattle.value_core.proofs.BagLemmas.{count-in_row_order, order-in_row_order, one_order, least-below}
use Rattle.plan_core.specs.Sound.{is_grouped}
use Rattle.plan_core.specs.declared.query.Query.{Query}
use Rattle.plan_core.specs.declared.stop.Stop.{Stop}
use Rattle.plan_core.specs.declared.stop.StopOr.{StopOr}
use Rattle.plan_core.specs.declared.stop.StopOr.TheVariants as either
use Rattle.flow_model.specs.Views.{Share, share, shared, shares_of, result_rows, query_stop, unless, ask_in_order, group_row, groups_of}
use Rattle.view_groups.specs.AllGroups.{RowsAnswers, first_fault, first_sum}
use Rattle.view_query.specs.Asked.{AskAnswers, PassAnswers, PlainAnswers}

-- ---- sorting

-- rows in row order are what sorting makes of them
pub ordered_is : (rows : List Row) → IsInOrder rows → rows ≡ in_row_order rows
ordered_is rows order = one_order rows (in_row_order rows) order (order-in_row_order rows) (λ a. sym (count-in_row_order a rows))

turned : (o r : Ordering) → o ≡ ordering_reverse r → is_lt r ≡ false → is_gt o ≡ false
turned o Less e h = cc
turned o Equal e h = ap is_gt e
turned o Greater e h = ap is_gt e

rest-sorted : (x : Row) (xs : List Row) → IsSorted row_order (x ∷ xs) → IsSorted row_order xs
rest-sorted x xs sorted = λ k d low high. let e : suc k + 1 ≡ suc (k + 1) = omega arith in
    subst (λ n. is_lt (row_order (slice_index_or (x ∷ xs) n d) (slice_index_or xs k d)) ≡ false) e (sorted (suc k) d (omega arith) (omega arith))

pub sorted_order : (xs : List Row) → IsSorted row_order xs → IsInOrder xs
sorted_order [] sorted = tt
sorted_order (x ∷ []) sorted = (tt, tt)
sorted_order (x ∷ y ∷ zs) sorted =
    let rest : IsInOrder (y ∷ zs) = sorted_order (y ∷ zs) (rest-sorted x (y ∷ zs) sorted) in
    let up : is_gt (row_order x y) ≡ false = turned (row_order x y) (row_order y x) (row_order_total.antisymm x y) (sorted 0 x (omega arith) (omega arith)) in
    ((up, least-below x y zs up rest.0), rest)

pub sorted_is : (rows sorted : List Row) → IsPermutation rows sorted → IsSorted row_order sorted → sorted ≡ in_row_order rows
sorted_is rows sorted same order = one_order sorted (in_row_order rows) (sorted_order sorted order) (order-in_row_order rows)
    (λ a. sum_by-IsPermutation (λ x. cond (same_row a x) 1 0) rows sorted same ∙ sym (count-in_row_order a rows))

-- ---- projections

map-append : {A B : Type 0} (f : A → B) (xs ys : List A) → map f (xs ++ ys) ≡ map f xs ++ map f ys
map-append f [] ys = refl
map-append f (x ∷ xs) ys = ap (λ t. f x ∷ t) (map-append f xs ys)

shares-push : (query : Query) (rows : List Row) (i : ℕ) (row : Row) → i < length rows → row ≡ get_or rows i row
    → shares_of query (take (i + 1) rows) ≡ shares_of query (take i rows) ++ shares_of query (row ∷ [])
shares-push query rows i row k is =
    ap (shares_of query) (take_more rows i row k ∙ ap (λ r. take i rows ++ r ∷ []) (sym is)) ∙ filter_map-append (λ r. shared (share query r)) (take i rows) (row ∷ [])

pub projected_more : (query : Query) (rows : List Row) (i : ℕ) (row : Row) (before out new : List Row) → i < length rows → row ≡ get_or rows i row → out ≡ before ++ map (λ s. s.values) (shares_of query (take i rows))
    → new ≡ out ++ map (λ s. s.values) (shares_of query (row ∷ [])) → new ≡ before ++ map (λ s. s.values) (shares_of query (take (i + 1) rows))
projected_more query rows i row before out new k is so_far more =
    let f = λ (s : Share). s.values in
    let one = shares_of query (row ∷ []) in
    more ∙ ap (λ r. r ++ map f one) so_far ∙ append_assoc before (map f (shares_of query (take i rows))) (map f one)
    ∙ ap (λ r. before ++ r) (sym (ap (map f) (shares-push query rows i row k is) ∙ map-append f (shares_of query (take i rows)) one))

pub no_stop_more : (h : Row → Option Stop) (rows : List Row) (i : ℕ) (row : Row) → i < length rows → row ≡ get_or rows i row → h row ≡ None → filter_map h (drop i rows) ≡ filter_map h (drop (i + 1) rows)
no_stop_more h rows i row k is e =
    ap (filter_map h) (drop_more rows i row k ∙ ap (λ r. r ∷ drop (i + 1) rows) (sym is)) ∙ ap (λ o. cons_option o (filter_map h (drop (i + 1) rows))) e

pub none_of : (o : Option Stop) → false ≡ is_some o → o ≡ None
none_of None e = refl
none_of (Some stop) e = cc

-- ---- the pass

-- the stop of a query that groups, and of one that doesn't
grouped-stop : (query : Query) (rows : List Row) → is_grouped query ≡ true → query_stop query rows ≡ option_or (first_fault query rows) (first_sum query (shares_of query rows))
grouped-stop query rows e = ap (λ g. option_or (first_fault query rows) (if g then first_sum query (shares_of query rows) else None)) e

no-more : {A : Type 0} (o : Option A) → option_or o None ≡ o
no-more None = refl
no-more (Some x) = refl

plain-stop : (query : Query) (rows : List Row) → is_grouped query ≡ false → query_stop query rows ≡ first_fault query rows
plain-stop query rows e = ap (λ g. option_or (first_fault query rows) (if g then first_sum query (shares_of query rows) else None)) e ∙ no-more (first_fault query rows)

pub pass_grouped : (query : Query) (rows : List Row) (result : Result (List Row) StopOr) → is_grouped query ≡ true → RowsAnswers query rows result → PassAnswers query rows result
pass_grouped query rows (Ok out) e answers =
    let shares = shares_of query rows in (
      grouped-stop query rows e ∙ ap (λ f. option_or f (first_sum query shares)) answers.0 ∙ answers.1,
      ap in_row_order answers.2 ∙ sym (ap (λ g. in_row_order (if g then map (group_row query shares) (groups_of query shares) else map (λ s. s.values) shares)) e),
    )
pass_grouped query rows (Err (either.Stop stop)) e answers = grouped-stop query rows e ∙ answers
pass_grouped query rows (Err either.Memory) e answers = tt

pub pass_plain : (query : Query) (rows : List Row) (result : Result (List Row) StopOr) → is_grouped query ≡ false → PlainAnswers query rows result → PassAnswers query rows result
pass_plain query rows (Ok out) e answers =
    let shares = shares_of query rows in (
      plain-stop query rows e ∙ answers.0,
      ap in_row_order answers.1 ∙ sym (ap (λ g. in_row_order (if g then map (group_row query shares) (groups_of query shares) else map (λ s. s.values) shares)) e),
    )
pass_plain query rows (Err (either.Stop stop)) e answers = plain-stop query rows e ∙ answers
pass_plain query rows (Err either.Memory) e answers = tt

-- ---- the answer

pub ask_rows : (query : Query) (rows out sorted : List Row) → PassAnswers query rows (Ok out) → sorted ≡ in_row_order out → ask_in_order query rows ≡ Ok sorted
ask_rows query rows out sorted answers is =
    ap (λ s. unless s (result_rows query (shares_of query rows))) answers.0 ∙ ap (λ r. Ok r) (sym (is ∙ answers.1))

pub ask_stopped : (query : Query) (rows : List Row) (end : StopOr) → PassAnswers query rows (Err end) → AskAnswers (ask_in_order query rows) (Err end)
ask_stopped query rows (either.Stop stop) answers = ap (λ s. unless s (result_rows query (shares_of query rows))) answers
ask_stopped query rows either.Memory answers = tt
