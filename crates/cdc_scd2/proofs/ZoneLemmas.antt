-- Steps of the loops along the zone behind an event.
use Rattle.std.proofs.Common.{◌≡◌, ℕ, zero, suc, ◌+◌, ◌-◌, ◌<◌, Bool, false, ◌&&◌, if◌then◌else◌, List, [], ◌∷◌, ◌++◌, length, drop, slice_get, slice_index_or, Option, Some, refl, sym, ap, ◌∙◌, append_assoc, arith}
use Rattle.std.specs.Prelude.{option_to_list}
use Rattle.std.proofs.lemmas.List.{map-append}
use Rattle.value_core.specs.Order.{Row}
use Rattle.event_history.specs.declared.history.Entry.{Entry}
use Rattle.flow_model.specs.Current.{after_event}
use Rattle.flow_model.specs.History.{goes_on}
use Rattle.cdc_runs.specs.Entries.{columns_after, moment_of, moments_of}
use Rattle.cdc_runs.specs.Runs.{carried_by, goes_through, moment_goes_on, same_columns}
use Rattle.cdc_runs.proofs.CodeLemmas.{at_place}
use Rattle.cdc_scd2.specs.Cache.{carried_on, last_or}

-- ---- what carries on

last_or_end : (state : Option Row) (rows : List Row) (row : Row) → last_or state (rows ++ row ∷ []) ≡ Some row
last_or_end state [] row = refl
last_or_end state (x ∷ xs) row = last_or_end (Some x) xs row

pub carried_more : (ignore_null : Bool) (entries : List Entry) (i : ℕ) (x : Entry) (first : Option Row) (made made' : List Row) (columns : Row) (all : List Row)
    → i < length entries → x ≡ slice_index_or entries i x → after_event ignore_null (last_or first made) x.event ≡ Some columns → same_columns (columns_after x) (Some columns) ≡ false
    → made' ≡ made ++ columns ∷ [] → made ++ carried_on ignore_null (last_or first made) (drop i entries) ≡ all
    → made' ++ carried_on ignore_null (last_or first made') (drop (i + 1) entries) ≡ all
carried_more ignore_null entries i x first made made' columns all within is next other put so =
    (λ k. put k ++ carried_on ignore_null (last_or first (put k)) (drop (i + 1) entries))
    ∙ ap (λ state. (made ++ columns ∷ []) ++ carried_on ignore_null state (drop (i + 1) entries)) (last_or_end first made columns)
    ∙ append_assoc made (columns ∷ []) (carried_on ignore_null (Some columns) (drop (i + 1) entries))
    ∙ ap (λ more. made ++ more) (sym (ap (λ test. if test then [] else columns ∷ carried_on ignore_null (Some columns) (drop (i + 1) entries)) other)
    ∙ ap (λ state. carried_by (columns_after x) state (carried_on ignore_null state (drop (i + 1) entries))) (sym next)
    ∙ ap (carried_on ignore_null (last_or first made)) (sym (at_place entries i x within is)))
    ∙ so

-- ---- a run that goes through one entry more

head_goes_on : (tracked : List ℕ) (columns : Row) (entries : List Entry) (head : Option Entry) → head ≡ slice_get entries 0
    → goes_on tracked columns (moments_of (option_to_list head)) ≡ goes_on tracked columns (moments_of entries)
head_goes_on tracked columns [] head e = ap (λ h. goes_on tracked columns (moments_of (option_to_list h))) e
head_goes_on tracked columns (entry ∷ entries) head e = ap (λ h. goes_on tracked columns (moments_of (option_to_list h))) e

pub through_step : (tracked : List ℕ) (entry : Entry) (more : List Entry) (next head : Option Entry) (columns : Row) (test : Bool) → head ≡ slice_get (more ++ option_to_list next) 0
    → columns_after entry ≡ Some columns → goes_on tracked columns (moments_of (option_to_list head)) ≡ test
    → goes_through tracked (moments_of (entry ∷ more)) (moments_of (option_to_list next)) ≡ (test && goes_through tracked (moments_of more) (moments_of (option_to_list next)))
through_step tracked entry more next head columns test at is goes =
    ap (λ c. moment_goes_on tracked c (moments_of more ++ moments_of (option_to_list next)) && goes_through tracked (moments_of more) (moments_of (option_to_list next))) is
    ∙ ap (λ t. t && goes_through tracked (moments_of more) (moments_of (option_to_list next)))
    (ap (goes_on tracked columns) (sym (map-append moment_of more (option_to_list next))) ∙ sym (head_goes_on tracked columns (more ++ option_to_list next) head at) ∙ goes)

pub last_is : (state : Option Row) (rows : List Row) (x : Row) → 0 < length rows → ((d : Row) → x ≡ slice_index_or rows (length rows - 1) d) → Some x ≡ last_or state rows
last_is state [] x some is = absurd (omega arith)
last_is state (r ∷ []) x some is = let e : suc zero - 1 ≡ zero = omega arith in ap Some (is r ∙ ap (λ k. slice_index_or (r ∷ []) k r) e)
last_is state (r ∷ (q ∷ qs)) x some is =
    let e : suc (suc (length qs)) - 1 ≡ suc (suc (length qs) - 1) = omega arith in
    last_is (Some r) (q ∷ qs) x (omega arith) (λ d. is d ∙ ap (λ k. slice_index_or (r ∷ (q ∷ qs)) k d) e)
