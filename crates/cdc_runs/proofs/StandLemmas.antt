-- The first run behind a place, and a run that goes through.
use Rattle.std.proofs.Common.{◌≡◌, ℕ, Bool, true, false, ◌&&◌, if◌then◌else◌, List, [], ◌∷◌, ◌++◌, Option, Some, None, refl, sym, ap, ◌∙◌}
use Rattle.std.specs.Prelude.{unwrap_or, option_to_list}
use Rattle.std.specs.Cmp.{tied_itself}
use Rattle.std.specs.declared.cmp.Ordering.{Ordering}
use Rattle.std.specs.declared.cmp.Ordering.TheVariants.{Less, Equal, Greater}
use Rattle.std.specs.Ordering.{is_eq}
use Rattle.std.proofs.lemmas.List.{append-nil}
use Rattle.value_core.specs.declared.event.Event.{Event}
use Rattle.value_core.specs.Order.{Row, row_order, same_row}
use Rattle.value_core.specs.OrderLaws.{row_order_total, rows_apart}
use Rattle.value_core.specs.EventOrder.{is_upsert}
use Rattle.flow_model.specs.Current.{merged}
use Rattle.flow_model.specs.History.{Moment, Interval, goes_on, next_sequence, moments_after}
use Rattle.cdc_runs.specs.Runs.{ended_by, opened_by, ended, opened, ends_in, left_open, stands_by, interval_at, past_by, ends_past, moment_goes_on, goes_through, same_columns, carried_by, carried, recolumned}

-- ---- what is behind a place: the interval of its first moment, and the rest

abbrev Parted : List ℕ → List Moment → Type 0
Parted tracked moments = (since : Option Row) → ends_in tracked since moments [] ≡ option_to_list (interval_at tracked since moments) ++ ends_past tracked moments

parted_test : (tracked : List ℕ) (start : Row) (later : List Moment) (columns : Row) (test : Bool) → Parted tracked later
    → (if test then [] else record { columns = columns; start = start; end = next_sequence later } ∷ []) ++ ends_in tracked (if test then Some start else None) later []
    ≡ option_to_list (if test then interval_at tracked (Some start) later else Some (record { columns = columns; start = start; end = next_sequence later })) ++ (if test then ends_past tracked later else ends_in tracked None later [])
parted_test tracked start later columns true parted = parted (Some start)
parted_test tracked start later columns false parted = refl

parted_columns : (tracked : List ℕ) (since : Option Row) (sequence : Row) (later : List Moment) (columns : Option Row) → Parted tracked later
    → ended_by tracked since sequence later columns ++ ends_in tracked (opened_by tracked since sequence later columns) later []
    ≡ option_to_list (stands_by tracked (unwrap_or since sequence) later (interval_at tracked (Some (unwrap_or since sequence)) later) columns) ++ past_by tracked later (ends_past tracked later) columns
parted_columns tracked since sequence later None parted = refl
parted_columns tracked since sequence later (Some columns) parted = parted_test tracked (unwrap_or since sequence) later columns (goes_on tracked columns later) parted

pub parted : (tracked : List ℕ) (moments : List Moment) → Parted tracked moments
parted tracked [] since = refl
parted tracked (moment ∷ later) since = ap (λ behind. ended tracked since moment behind ++ ends_in tracked (opened tracked since moment behind) later []) (append-nil later)
    ∙ parted_columns tracked since moment.sequence later moment.columns (parted tracked later)

-- ---- a run that goes through

pub and-both : (a b : Bool) → a ≡ true → b ≡ true → (a && b) ≡ true
and-both a b e f = λ i. e i && f i

pub and-true : (a b : Bool) → (a && b) ≡ true → (a ≡ true) × (b ≡ true)
and-true true b e = (refl, e)
and-true false b e = cc

through_ended : (tracked : List ℕ) (since : Option Row) (sequence : Row) (later : List Moment) (columns : Option Row) → moment_goes_on tracked columns later ≡ true
    → ended_by tracked since sequence later columns ≡ []
through_ended tracked since sequence later None e = cc
through_ended tracked since sequence later (Some columns) e = ap (λ test. if test then [] else record { columns = columns; start = unwrap_or since sequence; end = next_sequence later } ∷ []) e

pub through_opened : (tracked : List ℕ) (since : Option Row) (sequence : Row) (later : List Moment) (columns : Option Row) → moment_goes_on tracked columns later ≡ true
    → opened_by tracked since sequence later columns ≡ Some (unwrap_or since sequence)
through_opened tracked since sequence later None e = cc
through_opened tracked since sequence later (Some columns) e = ap (λ test. if test then Some (unwrap_or since sequence) else None) e

pub stopped_opened : (tracked : List ℕ) (since : Option Row) (sequence : Row) (later : List Moment) (columns : Option Row) → moment_goes_on tracked columns later ≡ false
    → opened_by tracked since sequence later columns ≡ None
stopped_opened tracked since sequence later None e = refl
stopped_opened tracked since sequence later (Some columns) e = ap (λ test. if test then Some (unwrap_or since sequence) else None) e

pub through_ends : (tracked : List ℕ) (since : Option Row) (moments next : List Moment) → goes_through tracked moments next ≡ true → ends_in tracked since moments next ≡ []
through_ends tracked since [] next e = refl
through_ends tracked since (moment ∷ moments) next e =
    let both = and-true (moment_goes_on tracked moment.columns (moments ++ next)) (goes_through tracked moments next) e in
    (λ i. through_ended tracked since moment.sequence (moments ++ next) moment.columns both.0 i ++ through_ends tracked (opened tracked since moment (moments ++ next)) moments next both.1 i)

pub through_left : (tracked : List ℕ) (since : Option Row) (moment : Moment) (moments next : List Moment) → goes_through tracked (moment ∷ moments) next ≡ true
    → left_open tracked since (moment ∷ moments) next ≡ Some (unwrap_or since moment.sequence)
through_left tracked since moment [] next e =
    let both = and-true (moment_goes_on tracked moment.columns next) true e in through_opened tracked since moment.sequence next moment.columns both.0
through_left tracked since moment (other ∷ moments) next e =
    let both = and-true (moment_goes_on tracked moment.columns (other ∷ (moments ++ next))) (goes_through tracked (other ∷ moments) next) e in
    ap (λ from. left_open tracked from (other ∷ moments) next) (through_opened tracked since moment.sequence (other ∷ (moments ++ next)) moment.columns both.0)
    ∙ through_left tracked (Some (unwrap_or since moment.sequence)) other moments next both.1

-- ---- the interval in which a moment stands, where its run goes on

pub goes_on_one : (tracked : List ℕ) (start : Row) (next : Moment) (more : List Moment) (behind : Option Interval) (columns : Option Row) → moment_goes_on tracked columns (next ∷ []) ≡ true
    → stands_by tracked start (next ∷ more) behind columns ≡ behind
goes_on_one tracked start next more behind None e = cc
goes_on_one tracked start next more behind (Some columns) e = ap (λ test. if test then behind else Some (record { columns = columns; start = start; end = Some next.sequence })) e

pub goes_on_head : (tracked : List ℕ) (next : Moment) (more : List Moment) (columns : Option Row) → moment_goes_on tracked columns (next ∷ []) ≡ true → moment_goes_on tracked columns (next ∷ more) ≡ true
goes_on_head tracked next more None e = e
goes_on_head tracked next more (Some columns) e = e

pub run_goes_on : (tracked : List ℕ) (since : Option Row) (moment next : Moment) (more : List Moment) → moment_goes_on tracked moment.columns (next ∷ []) ≡ true
    → interval_at tracked since (moment ∷ (next ∷ more)) ≡ interval_at tracked (opened tracked since moment (next ∷ more)) (next ∷ more)
run_goes_on tracked since moment next more e =
    goes_on_one tracked (unwrap_or since moment.sequence) next more (interval_at tracked (Some (unwrap_or since moment.sequence)) (next ∷ more)) moment.columns e
    ∙ ap (λ from. interval_at tracked from (next ∷ more)) (sym (through_opened tracked since moment.sequence (next ∷ more) moment.columns (goes_on_head tracked next more moment.columns e)))

-- ---- the run in which a moment stands began where it began

ended_start : (tracked : List ℕ) (since : Option Row) (sequence : Row) (later : List Moment) (columns : Option Row)
    → ended_by tracked since sequence later columns ≡ ended_by tracked (Some (unwrap_or since sequence)) sequence later columns
ended_start tracked since sequence later None = refl
ended_start tracked since sequence later (Some columns) = refl

opened_start : (tracked : List ℕ) (since : Option Row) (sequence : Row) (later : List Moment) (columns : Option Row)
    → opened_by tracked since sequence later columns ≡ opened_by tracked (Some (unwrap_or since sequence)) sequence later columns
opened_start tracked since sequence later None = refl
opened_start tracked since sequence later (Some columns) = refl

pub ends_start : (tracked : List ℕ) (since : Option Row) (moment : Moment) (moments next : List Moment)
    → ends_in tracked since (moment ∷ moments) next ≡ ends_in tracked (Some (unwrap_or since moment.sequence)) (moment ∷ moments) next
ends_start tracked since moment moments next = λ i. ended_start tracked since moment.sequence (moments ++ next) moment.columns i
    ++ ends_in tracked (opened_start tracked since moment.sequence (moments ++ next) moment.columns i) moments next

pub left_start : (tracked : List ℕ) (since : Option Row) (moment : Moment) (moments next : List Moment)
    → left_open tracked since (moment ∷ moments) next ≡ left_open tracked (Some (unwrap_or since moment.sequence)) (moment ∷ moments) next
left_start tracked since moment moments next = λ i. left_open tracked (opened_start tracked since moment.sequence (moments ++ next) moment.columns i) moments next

-- nothing goes on behind a moment that its run ends with
pub stopped_left : (tracked : List ℕ) (since : Option Row) (moments : List Moment) (moment : Moment) (next : List Moment) → moment_goes_on tracked moment.columns next ≡ false
    → left_open tracked since (moments ++ moment ∷ []) next ≡ None
stopped_left tracked since [] moment next e = stopped_opened tracked since moment.sequence next moment.columns e
stopped_left tracked since (other ∷ moments) moment next e = stopped_left tracked (opened tracked since other ((moments ++ moment ∷ []) ++ next)) moments moment next e

-- ---- the columns that are carried on

pub same_row-is : (a b : Row) → same_row a b ≡ true → a ≡ b
same_row-is a b e = rows_apart a b (equal (row_order a b) e)
  where
    equal : (o : Ordering) → is_eq o ≡ true → o ≡ Equal
    equal Less h = cc
    equal Equal h = refl
    equal Greater h = cc

pub same_columns-is : (a b : Option Row) → same_columns a b ≡ true → a ≡ b
same_columns-is None None e = refl
same_columns-is None (Some b) e = cc
same_columns-is (Some a) None e = cc
same_columns-is (Some a) (Some b) e = ap Some (same_row-is a b e)

pub same_row-itself : (a : Row) → same_row a a ≡ true
same_row-itself a = ap is_eq (tied_itself row_order_total a)

abbrev Carries : Bool → List Event → Type 0
Carries ignore_null events = (was is : Option Row) → moments_after ignore_null is events ≡ recolumned (moments_after ignore_null was events) (carried ignore_null was is events)

-- an event leaves columns in both states or in none
carries_test : (ignore_null : Bool) (event : Event) (events : List Event) → Carries ignore_null events → (a b : Row) (test : Bool) → same_columns (Some a) (Some b) ≡ test
    → record { sequence = event.sequence; columns = Some b } ∷ moments_after ignore_null (Some b) events
    ≡ recolumned (record { sequence = event.sequence; columns = Some a } ∷ moments_after ignore_null (Some a) events) (if test then [] else b ∷ carried ignore_null (Some a) (Some b) events)
carries_test ignore_null event events carries a b true e =
    λ i. record { sequence = event.sequence; columns = sym (same_columns-is (Some a) (Some b) e) i } ∷ moments_after ignore_null (sym (same_columns-is (Some a) (Some b) e) i) events
carries_test ignore_null event events carries a b false e = ap (λ more. record { sequence = event.sequence; columns = Some b } ∷ more) (carries (Some a) (Some b))

carries_by : (ignore_null : Bool) (event : Event) (events : List Event) → Carries ignore_null events → (a b : Row) (upsert : Bool)
    → record { sequence = event.sequence; columns = if upsert then Some b else None } ∷ moments_after ignore_null (if upsert then Some b else None) events
    ≡ recolumned (record { sequence = event.sequence; columns = if upsert then Some a else None } ∷ moments_after ignore_null (if upsert then Some a else None) events)
    (carried_by (if upsert then Some a else None) (if upsert then Some b else None) (carried ignore_null (if upsert then Some a else None) (if upsert then Some b else None) events))
carries_by ignore_null event events carries a b true = carries_test ignore_null event events carries a b (same_columns (Some a) (Some b)) refl
carries_by ignore_null event events carries a b false = refl

pub carries : (ignore_null : Bool) (events : List Event) → Carries ignore_null events
carries ignore_null [] was is = refl
carries ignore_null (event ∷ events) was is = carries_by ignore_null event events (carries ignore_null events)
    (if ignore_null then merged was event.columns else event.columns) (if ignore_null then merged is event.columns else event.columns) (is_upsert event)
