-- Steps of the loops.
use Rattle.std.proofs.Common.{◌≡◌, ℕ, zero, suc, ◌+◌, ◌<◌, true, false, List, [], ◌∷◌, ◌++◌, length, drop, map, slice_get, slice_index_or, Option, Some, None, refl, sym, ap, ◌∙◌, append_assoc, arith}
use Rattle.std.specs.Prelude.{option_to_list}
use Rattle.std.specs.declared.cmp.Ordering.{Ordering}
use Rattle.std.specs.declared.cmp.Ordering.TheVariants.{Less, Equal, Greater}
use Rattle.std.specs.Ordering.{is_eq, ordering_then}
use Rattle.std.proofs.lemmas.List.{map-append}
use Rattle.value_core.specs.declared.value.Value.TheVariants.{Null}
use Rattle.value_core.specs.Order.{Row, row_order, value_order, same_row, same_value}
use Rattle.event_history.specs.declared.history.Entry.{Entry}
use Rattle.flow_model.specs.Feed.{pick}
use Rattle.flow_model.specs.Current.{overlaid}
use Rattle.flow_model.specs.History.{Moment, interval_row}
use Rattle.cdc_runs.specs.Entries.{moment_of, moments_of}
use Rattle.cdc_runs.specs.Runs.{ended_by, opened_by, ended, opened, ends_in, left_open}

pub overlaid_none : (olds : Row) → overlaid olds [] ≡ []
overlaid_none [] = refl
overlaid_none (old ∷ olds) = refl

then_eq : (o p : Ordering) → is_eq o ≡ true → is_eq (ordering_then o p) ≡ is_eq p
then_eq Less p e = cc
then_eq Equal p e = refl
then_eq Greater p e = cc

then_not : (o p : Ordering) → is_eq o ≡ false → is_eq (ordering_then o p) ≡ false
then_not Less p e = refl
then_not Equal p e = cc
then_not Greater p e = refl

-- one tracked place more, where the rows have one value
pub picked_more : (tracked : List ℕ) (left right : Row) (i : ℕ) → i < length tracked → same_value (slice_index_or left (slice_index_or tracked i 0) Null) (slice_index_or right (slice_index_or tracked i 0) Null) ≡ true
    → same_row (pick (drop (i + 1) tracked) left) (pick (drop (i + 1) tracked) right) ≡ same_row (pick (drop i tracked) left) (pick (drop i tracked) right)
picked_more [] left right i within same = absurd (omega arith)
picked_more (x ∷ xs) left right zero within same = sym (then_eq (value_order (slice_index_or left x Null) (slice_index_or right x Null)) (row_order (pick xs left) (pick xs right)) same)
picked_more (x ∷ xs) left right (suc i) within same = let e : suc i + 1 ≡ suc (i + 1) = omega arith in rw e (picked_more xs left right i (omega arith) same)

-- ---- the ends of runs hang on the next entry alone

head_entries : (tracked : List ℕ) (since : Option Row) (moment : Moment) (entries : List Entry) (head : Option Entry) → head ≡ slice_get entries 0
    → (ended tracked since moment (moments_of (option_to_list head)) ≡ ended tracked since moment (moments_of entries)) × (opened tracked since moment (moments_of (option_to_list head)) ≡ opened tracked since moment (moments_of entries))
head_entries tracked since moment [] head e = (ap (λ h. ended tracked since moment (moments_of (option_to_list h))) e, ap (λ h. opened tracked since moment (moments_of (option_to_list h))) e)
head_entries tracked since moment (entry ∷ entries) head e =
    (ap (λ h. ended tracked since moment (moments_of (option_to_list h))) e ∙ ended_one moment.columns, ap (λ h. opened tracked since moment (moments_of (option_to_list h))) e ∙ opened_one moment.columns)
  where
    ended_one : (columns : Option Row) → ended_by tracked since moment.sequence (moments_of (entry ∷ [])) columns ≡ ended_by tracked since moment.sequence (moments_of (entry ∷ entries)) columns
    ended_one None = refl
    ended_one (Some columns) = refl

    opened_one : (columns : Option Row) → opened_by tracked since moment.sequence (moments_of (entry ∷ [])) columns ≡ opened_by tracked since moment.sequence (moments_of (entry ∷ entries)) columns
    opened_one None = refl
    opened_one (Some columns) = refl

-- one entry more of a stretch
pub ends_more : (tracked : List ℕ) (since then' : Option Row) (entry : Entry) (more : List Entry) (next head : Option Entry) (rows rows' : List Row)
    → head ≡ slice_get (more ++ option_to_list next) 0
    → rows' ≡ rows ++ map interval_row (ended tracked since (moment_of entry) (moments_of (option_to_list head)))
    → then' ≡ opened tracked since (moment_of entry) (moments_of (option_to_list head))
    → (rows' ++ map interval_row (ends_in tracked then' (moments_of more) (moments_of (option_to_list next))) ≡ rows ++ map interval_row (ends_in tracked since (moments_of (entry ∷ more)) (moments_of (option_to_list next))))
    × (left_open tracked then' (moments_of more) (moments_of (option_to_list next)) ≡ left_open tracked since (moments_of (entry ∷ more)) (moments_of (option_to_list next)))
ends_more tracked since then' entry more next head rows rows' at put is =
    let behind : List Moment = moments_of more ++ moments_of (option_to_list next) in
    let same : moments_of (more ++ option_to_list next) ≡ behind = map-append moment_of more (option_to_list next) in
    let both = head_entries tracked since (moment_of entry) (more ++ option_to_list next) head at in
    let e : ended tracked since (moment_of entry) (moments_of (option_to_list head)) ≡ ended tracked since (moment_of entry) behind = both.0 ∙ ap (ended tracked since (moment_of entry)) same in
    let o : then' ≡ opened tracked since (moment_of entry) behind = is ∙ both.1 ∙ ap (opened tracked since (moment_of entry)) same in (
      (λ i. (put ∙ ap (λ ends. rows ++ map interval_row ends) e) i ++ map interval_row (ends_in tracked (o i) (moments_of more) (moments_of (option_to_list next))))
          ∙ append_assoc rows (map interval_row (ended tracked since (moment_of entry) behind)) (map interval_row (ends_in tracked (opened tracked since (moment_of entry) behind) (moments_of more) (moments_of (option_to_list next))))
          ∙ ap (λ more. rows ++ more) (sym (map-append interval_row (ended tracked since (moment_of entry) behind) (ends_in tracked (opened tracked since (moment_of entry) behind) (moments_of more) (moments_of (option_to_list next))))),
      ap (λ from. left_open tracked from (moments_of more) (moments_of (option_to_list next))) o,
    )

-- ---- an entry at a place

pub at_place : (entries : List Entry) (i : ℕ) (x : Entry) → i < length entries → x ≡ slice_index_or entries i x → drop i entries ≡ x ∷ drop (i + 1) entries
at_place [] i x within is = absurd (omega arith)
at_place (y ∷ ys) zero x within is = λ k. sym is k ∷ ys
at_place (y ∷ ys) (suc i) x within is = let e : suc i + 1 ≡ suc (i + 1) = omega arith in rw e (at_place ys i x (omega arith) is)
