-- Later versions of a dataset change nothing of the earlier ones.
use Rattle.std.proofs.Common.{◌≡◌, ℕ, ◌+◌, ◌-◌, ◌≤◌, List, [], ◌∷◌, ◌++◌, length, take, drop, refl, sym, ap, ◌∙◌, subst, arith, append_assoc, append-nil, length-append}
use Rattle.std.proofs.lemmas.List.{take-append-le, drop-append-le}
use Rattle.std.proofs.lemmas.List.Sums.{sum_by-append}
use Rattle.std.specs.Prelude.{cond}
use Rattle.value_core.specs.declared.change.Change.{Change}
use Rattle.value_core.specs.Bags.{SameBag, changed, count_of, surplus}
use Rattle.value_core.specs.Order.{Row, same_row}
use Rattle.value_core.proofs.BagLemmas.{count-in_row_order}
use Rattle.net_changes.specs.Chains.{all_added, content_after}
use Rattle.state_model.specs.Dataset.{Dataset, content_at, changes_after}
use Rattle.state_steps.specs.Consumed.{IsKept, IsStreamed, RemoveNone}

-- a dataset after further versions
pub record IsMore (was now : Dataset) : Type 0 where
  pub definition : now.definition ≡ was.definition
  pub base : now.table.base ≡ was.table.base
  pub rows : now.table.rows ≡ was.table.rows
  pub more : List Change
  pub changes : now.table.changes ≡ was.table.changes ++ more

-- after further versions that remove no row
pub record IsStreamedOn (was now : Dataset) : Type 0 where
  pub is_more : IsMore was now
  pub none : RemoveNone is_more.more

within : (v base : ℕ) (changes : List Change) → v ≤ base + length changes → v - base ≤ length changes
within v base changes h = omega arith

pub still_kept : (v : ℕ) (was now : Dataset) → IsMore was now → IsKept v was → IsKept v now
still_kept v was now m kept =
    let longer : length now.table.changes ≡ length was.table.changes + length m.more = ap length m.changes ∙ length-append was.table.changes m.more in
    (omega (arith, m.base, kept.0), omega (arith, m.base, longer, kept.1))

pub still_at : (v : ℕ) (was now : Dataset) → IsMore was now → IsKept v was → content_at now v ≡ content_at was v
still_at v was now m kept =
    let moved : content_at now v ≡ content_after was.table.rows (take (v - was.table.base) (was.table.changes ++ m.more)) = λ i. content_after (m.rows i) (take (v - m.base i) (m.changes i)) in
    moved ∙ ap (content_after was.table.rows) (take-append-le (v - was.table.base) was.table.changes m.more (within v was.table.base was.table.changes kept.1))

pub since_more : (v : ℕ) (was now : Dataset) → (m : IsMore was now) → IsKept v was → changes_after now v ≡ changes_after was v ++ m.more
since_more v was now m kept =
    let moved : changes_after now v ≡ drop (v - was.table.base) (was.table.changes ++ m.more) = λ i. drop (v - m.base i) (m.changes i) in
    moved ∙ drop-append-le (v - was.table.base) was.table.changes m.more (within v was.table.base was.table.changes kept.1)

pub remove_none_more : (xs ys : List Change) → RemoveNone xs → RemoveNone ys → RemoveNone (xs ++ ys)
remove_none_more [] ys h k = k
remove_none_more (x ∷ xs) ys h k = (h.0, remove_none_more xs ys h.1 k)

pub still_streamed : (v : ℕ) (was now : Dataset) → IsStreamedOn was now → IsStreamed v was → IsStreamed v now
still_streamed v was now s is = (
  still_kept v was now s.is_more is.0,
  subst RemoveNone (sym (since_more v was now s.is_more is.0)) (remove_none_more (changes_after was v) s.is_more.more is.1 s.none),
)

-- ---- rows that were added after a version

pub content_after-append : (rows : List Row) (xs ys : List Change) → content_after rows (xs ++ ys) ≡ content_after (content_after rows xs) ys
content_after-append rows [] ys = refl
content_after-append rows (x ∷ xs) ys = content_after-append (changed rows x) xs ys

pub count-append : (a : Row) (xs ys : List Row) → count_of a (xs ++ ys) ≡ count_of a xs + count_of a ys
count-append a xs ys = sum_by-append (λ x. cond (same_row a x) 1 0) xs ys

pub same_changed : (rows : List Row) (change : Change) → change.removed ≡ [] → SameBag (changed rows change) (rows ++ change.added)
same_changed rows change none a =
    count-in_row_order a (surplus rows change.removed ++ change.added) ∙ ap (λ (r : List Row). count_of a (surplus rows r ++ change.added)) none

pub rows_grow : (rows : List Row) (changes : List Change) → RemoveNone changes → SameBag (content_after rows changes) (rows ++ all_added changes)
rows_grow rows [] none a = ap (count_of a) (sym (append-nil rows))
rows_grow rows (change ∷ changes) none a =
    rows_grow (changed rows change) changes none.1 a ∙ count-append a (changed rows change) (all_added changes)
    ∙ ap (λ (n : ℕ). n + count_of a (all_added changes)) (same_changed rows change none.0 a)
    ∙ sym (count-append a (rows ++ change.added) (all_added changes)) ∙ ap (count_of a) (append_assoc rows change.added (all_added changes))

pub take-all : (changes : List Change) → take (length changes) changes ≡ changes
take-all changes = ap (take (length changes)) (sym (append-nil changes)) ∙ take-append-le (length changes) changes [] (omega arith) ∙ by changes
  where
    by : (xs : List Change) → take (length xs) xs ≡ xs
    by [] = refl
    by (x ∷ xs) = ap (λ (t : List Change). x ∷ t) (by xs)
