-- Rows that come into a map and go out of it.
use Rattle.std.proofs.Common.{◌≡◌, ◌↔◌, ℕ, ◌+◌, ◌-◌, ◌<◌, ◌≤◌, Bool, true, false, cond, List, [], ◌∷◌, ◌++◌, length, get_or, drop, refl, sym, ap, ◌∙◌, subst, arith, Some}
use Rattle.std.proofs.lemmas.List.{drop_all, drop_more}
use Rattle.std.proofs.lemmas.List.Sums.{sum_by-append}
use Rattle.std.specs.Prelude.{unwrap_or}
use Rattle.std.specs.BTreeMap.{is_at}
use Rattle.std.specs.Cmp.{Equal-is}
use Rattle.std.specs.Map.{lookup}
use Rattle.value_core.specs.declared.change.Change.{Change}
use Rattle.value_core.specs.Bags.{changed, count_of, surplus}
use Rattle.value_core.specs.Changes.{IsChange}
use Rattle.value_core.specs.Order.{Row, row_order, same_row}
use Rattle.value_core.specs.OrderLaws.{rows_apart, same_row_laws}
use Rattle.value_core.proofs.BagLemmas.{count-cons, count-in_row_order, one}
use Rattle.value_core.proofs.ChangeLemmas.{count-surplus}
use Rattle.net_changes.specs.Chains.{Follow}
use Rattle.payload_parts.specs.Bag.{Advances, CountsRows, Lacks, FindsTooFew, RowsCame, times_of}

-- ---- one row

came-by : (old : List (Row × ℕ)) (row q : Row) (n : ℕ) (test : Bool) → same_row row q ≡ test → n ≡ times_of old row
    → unwrap_or (cond test (Some (n + 1)) (lookup (is_at (row_order q)) old)) 0 ≡ times_of old q + cond test 1 0
came-by old row q n true e number = let same : row ≡ q = rows_apart row q ((Equal-is (row_order row q)).0 e) in ap (λ k. k + 1) (number ∙ ap (times_of old) same)
came-by old row q n false e number = omega arith

pub row_came : (old new : List (Row × ℕ)) (row : Row) (n : ℕ) → n ≡ times_of old row
    → ((q : Row) → lookup (is_at (row_order q)) new ≡ cond (is_at (row_order row) q) (Some (n + 1)) (lookup (is_at (row_order q)) old)) → RowsCame old new (row ∷ [])
row_came old new row n number updates = record {
  times = λ q.
      let put : times_of new q ≡ times_of old q + cond (same_row row q) 1 0 = ap (λ o. unwrap_or o 0) (updates q) ∙ came-by old row q n (same_row row q) refl number in
      let turned : cond (same_row row q) 1 0 ≡ one q row = ap (λ (t : Bool). cond {A = ℕ} t 1 0) (same_row_laws.symm row q) in
      omega (arith, put, turned, count-cons q row []);
}

went-by : (old : List (Row × ℕ)) (row q : Row) (n : ℕ) (test : Bool) → same_row row q ≡ test → n + 1 ≡ times_of old row
    → times_of old q ≡ unwrap_or (cond test (Some n) (lookup (is_at (row_order q)) old)) 0 + cond test 1 0
went-by old row q n true e number = let same : row ≡ q = rows_apart row q ((Equal-is (row_order row q)).0 e) in ap (times_of old) (sym same) ∙ sym number
went-by old row q n false e number = omega arith

pub row_went : (old new : List (Row × ℕ)) (row : Row) (n : ℕ) → n + 1 ≡ times_of old row
    → ((q : Row) → lookup (is_at (row_order q)) new ≡ cond (is_at (row_order row) q) (Some n) (lookup (is_at (row_order q)) old)) → RowsCame new old (row ∷ [])
row_went old new row n number updates = record {
  times = λ q.
      let taken : times_of old q ≡ times_of new q + cond (same_row row q) 1 0 = went-by old row q n (same_row row q) refl number ∙ ap (λ o. unwrap_or o 0 + cond (same_row row q) 1 0) (sym (updates q)) in
      let turned : cond (same_row row q) 1 0 ≡ one q row = ap (λ (t : Bool). cond {A = ℕ} t 1 0) (same_row_laws.symm row q) in
      omega (arith, taken, turned, count-cons q row []);
}

-- ---- the rows that are left

left : (rows : List Row) (i : ℕ) (row : Row) → i < length rows → row ≡ get_or rows i row → drop i rows ≡ row ∷ drop (i + 1) rows
left rows i row h e = drop_more rows i row h ∙ ap (λ x. x ∷ drop (i + 1) rows) (sym e)

-- those that are left and what there is come to all
pub put_more : (first old new : List (Row × ℕ)) (rows : List Row) (i : ℕ) (row : Row) → i < length rows → row ≡ get_or rows i row → RowsCame old new (row ∷ [])
    → ((q : Row) → times_of old q + count_of q (drop i rows) ≡ times_of first q + count_of q rows) → (q : Row) → times_of new q + count_of q (drop (i + 1) rows) ≡ times_of first q + count_of q rows
put_more first old new rows i row h e came so_far q =
    omega (arith, so_far q, came.times q, ap (count_of q) (left rows i row h e), count-cons q row (drop (i + 1) rows), count-cons q row [])

pub all_put : (first last : List (Row × ℕ)) (rows : List Row) (i : ℕ) → length rows ≤ i → ((q : Row) → times_of last q + count_of q (drop i rows) ≡ times_of first q + count_of q rows) → RowsCame first last rows
all_put first last rows i h so_far = record { times = λ q. let none : count_of q (drop i rows) ≡ 0 = ap (count_of q) (drop_all i rows h) in omega (arith, so_far q, none) }

pub take_more : (first old new : List (Row × ℕ)) (rows : List Row) (i : ℕ) (row : Row) → i < length rows → row ≡ get_or rows i row → RowsCame new old (row ∷ [])
    → ((q : Row) → times_of first q + count_of q (drop i rows) ≡ times_of old q + count_of q rows) → (q : Row) → times_of first q + count_of q (drop (i + 1) rows) ≡ times_of new q + count_of q rows
take_more first old new rows i row h e went so_far q =
    omega (arith, so_far q, went.times q, ap (count_of q) (left rows i row h e), count-cons q row (drop (i + 1) rows), count-cons q row [])

pub all_taken : (first last : List (Row × ℕ)) (rows : List Row) (i : ℕ) → length rows ≤ i → ((q : Row) → times_of first q + count_of q (drop i rows) ≡ times_of last q + count_of q rows) → RowsCame last first rows
all_taken first last rows i h so_far = record { times = λ q. let none : count_of q (drop i rows) ≡ 0 = ap (count_of q) (drop_all i rows h) in omega (arith, so_far q, none) }

pub one_lacks : (first last : List (Row × ℕ)) (rows : List Row) (i : ℕ) (row : Row) → i < length rows → row ≡ get_or rows i row → times_of last row ≡ 0
    → ((q : Row) → times_of first q + count_of q (drop i rows) ≡ times_of last q + count_of q rows) → Lacks first rows
one_lacks first last rows i row h e none so_far = (row, omega (arith, so_far row, none, ap (count_of row) (left rows i row h e), count-cons row row (drop (i + 1) rows), itself))
  where
    itself : one row row ≡ 1
    itself = ap (λ (t : Bool). cond {A = ℕ} t 1 0) (same_row_laws.refl row)

-- ---- a change

counts-changed : (q : Row) (rows : List Row) (change : Change) → count_of q (changed rows change) ≡ (count_of q rows - count_of q change.removed) + count_of q change.added
counts-changed q rows change =
    count-in_row_order q (surplus rows change.removed ++ change.added) ∙ sum_by-append (one q) (surplus rows change.removed) change.added
    ∙ ap (λ n. n + count_of q change.added) (count-surplus q rows change.removed)

pub advances : (old between new : List (Row × ℕ)) (change : Change) → IsChange change → RowsCame between old change.removed → RowsCame between new change.added → Advances old new change
advances old between new change form went came = record {
  leads = λ rows counts. (form, λ q. omega (arith, counts.times q, went.times q), record { times = λ q. omega (arith, counts.times q, went.times q, came.times q, counts-changed q rows change) });
}

pub refuses : (old : List (Row × ℕ)) (change : Change) → Lacks old change.removed → FindsTooFew old change
refuses old change lacks rows counts form holds = omega (arith, counts.times lacks.0, holds lacks.0, lacks.1)

-- ---- several changes

-- a map has the rows after the changes so far, and those that are left follow where all do
pub goes_on : (rows : List Row) (changes : List Change) (i : ℕ) (change : Change) (old new : List (Row × ℕ)) → i < length changes → change ≡ get_or changes i change → Advances old new change
    → ((now : List Row) × CountsRows old now × (Follow now (drop i changes) ↔ Follow rows changes)) → (now : List Row) × CountsRows new now × (Follow now (drop (i + 1) changes) ↔ Follow rows changes)
goes_on rows changes i change old new h e leads so_far =
    let split : drop i changes ≡ change ∷ drop (i + 1) changes = drop_more changes i change h ∙ ap (λ x. x ∷ drop (i + 1) changes) (sym e) in
    let led = leads.leads so_far.0 so_far.1 in
    (changed so_far.0 change, led.2, (λ rest. so_far.2.0 (subst (Follow so_far.0) (sym split) (led.0, led.1, rest)), λ all. (subst (Follow so_far.0) split (so_far.2.1 all)).2))

pub stops : (rows : List Row) (changes : List Change) (i : ℕ) (change : Change) (old : List (Row × ℕ)) → i < length changes → change ≡ get_or changes i change → FindsTooFew old change
    → ((now : List Row) × CountsRows old now × (Follow now (drop i changes) ↔ Follow rows changes)) → Follow rows changes → ⊥
stops rows changes i change old h e refused so_far all =
    let split : drop i changes ≡ change ∷ drop (i + 1) changes = drop_more changes i change h ∙ ap (λ x. x ∷ drop (i + 1) changes) (sym e) in
    let first = subst (Follow so_far.0) split (so_far.2.1 all) in
    refused so_far.0 so_far.1 first.0 first.1

pub all_follow : (rows : List Row) (changes : List Change) (i : ℕ) (last : List (Row × ℕ)) → length changes ≤ i
    → ((now : List Row) × CountsRows last now × (Follow now (drop i changes) ↔ Follow rows changes)) → Follow rows changes
all_follow rows changes i last h so_far = so_far.2.0 (subst (Follow so_far.0) (sym (drop_all i changes h)) tt)

pub begun : (empty new : List (Row × ℕ)) (rows : List Row) → CountsRows empty [] → RowsCame empty new rows → CountsRows new rows
begun empty new rows none came = record { times = λ q. let zero_of : times_of empty q ≡ 0 = none.times q in omega (arith, zero_of, came.times q) }
