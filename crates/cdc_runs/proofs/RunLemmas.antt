-- Intervals, told by their last moments.
use Rattle.std.proofs.Common.{◌≡◌, ℕ, Bool, true, false, if◌then◌else◌, List, [], ◌∷◌, ◌++◌, Option, Some, None, refl, sym, ap, ◌∙◌, append_assoc}
use Rattle.std.specs.Prelude.{unwrap_or}
use Rattle.std.proofs.lemmas.List.{append-nil}
use Rattle.value_core.specs.Order.{Row}
use Rattle.flow_model.specs.History.{Moment, Interval, goes_on, agree, next_sequence, begun_at, interval_by, intervals}
use Rattle.cdc_runs.specs.Runs.{ended_by, opened_by, ended, opened, ends_in, left_open}

-- ---- the same intervals, by their first moments

abbrev begun : Option Row → List Interval → List Interval
begun None xs = xs
begun (Some start) xs = begun_at start xs

begun_twice : (since : Option Row) (start : Row) (xs : List Interval) → begun since (begun_at start xs) ≡ begun (Some (unwrap_or since start)) xs
begun_twice None start xs = refl
begun_twice (Some other) start [] = refl
begun_twice (Some other) start (x ∷ xs) = refl

begun_first : (since : Option Row) (columns start : Row) (end : Option Row) (xs : List Interval)
    → begun since (record { columns = columns; start = start; end = end } ∷ xs) ≡ record { columns = columns; start = unwrap_or since start; end = end } ∷ xs
begun_first None columns start end xs = refl
begun_first (Some other) columns start end xs = refl

-- a run can be since before a moment that has columns alone
abbrev Meets_by : Option Row → Option Row → Type 0
Meets_by None columns = Unit {0}
Meets_by (Some start) None = ⊥
Meets_by (Some start) (Some columns) = Unit {0}

abbrev Meets : Option Row → List Moment → Type 0
Meets since [] = Unit {0}
Meets since (moment ∷ moments) = Meets_by since moment.columns

meets_none : (moments : List Moment) → Meets None moments
meets_none [] = tt
meets_none (moment ∷ moments) = tt

agree_meets : (tracked : List ℕ) (columns start : Row) (others : Option Row) → agree tracked columns others ≡ true → Meets_by (Some start) others
agree_meets tracked columns start None e = cc
agree_meets tracked columns start (Some others) e = tt

goes_on_meets : (tracked : List ℕ) (columns start : Row) (later : List Moment) → goes_on tracked columns later ≡ true → Meets (Some start) later
goes_on_meets tracked columns start [] e = cc
goes_on_meets tracked columns start (next ∷ later) e = agree_meets tracked columns start next.columns e

abbrev Told : List ℕ → List Moment → Type 0
Told tracked moments = (since : Option Row) → Meets since moments → begun since (intervals tracked moments) ≡ ends_in tracked since moments []

told_test : (tracked : List ℕ) (since : Option Row) (sequence : Row) (later : List Moment) (columns : Row) (test : Bool) → goes_on tracked columns later ≡ test → Told tracked later
    → begun since (if test then begun_at sequence (intervals tracked later) else record { columns = columns; start = sequence; end = next_sequence later } ∷ intervals tracked later)
    ≡ (if test then [] else record { columns = columns; start = unwrap_or since sequence; end = next_sequence later } ∷ []) ++ ends_in tracked (if test then Some (unwrap_or since sequence) else None) later []
told_test tracked since sequence later columns true e told =
    begun_twice since sequence (intervals tracked later) ∙ told (Some (unwrap_or since sequence)) (goes_on_meets tracked columns (unwrap_or since sequence) later e)
told_test tracked since sequence later columns false e told =
    begun_first since columns sequence (next_sequence later) (intervals tracked later) ∙ ap (λ xs. record { columns = columns; start = unwrap_or since sequence; end = next_sequence later } ∷ xs) (told None (meets_none later))

told_columns : (tracked : List ℕ) (since : Option Row) (sequence : Row) (later : List Moment) (columns : Option Row) → Meets_by since columns → Told tracked later
    → begun since (interval_by tracked sequence later (intervals tracked later) columns)
    ≡ ended_by tracked since sequence later columns ++ ends_in tracked (opened_by tracked since sequence later columns) later []
told_columns tracked None sequence later None meets told = told None (meets_none later)
told_columns tracked (Some start) sequence later None meets told = absurd meets
told_columns tracked since sequence later (Some columns) meets told = told_test tracked since sequence later columns (goes_on tracked columns later) refl told

begun_none : (since : Option Row) → begun since [] ≡ []
begun_none None = refl
begun_none (Some start) = refl

told : (tracked : List ℕ) (moments : List Moment) → Told tracked moments
told tracked [] since meets = begun_none since
told tracked (moment ∷ later) since meets = told_columns tracked since moment.sequence later moment.columns meets (told tracked later)
    ∙ ap (λ behind. ended tracked since moment behind ++ ends_in tracked (opened tracked since moment behind) later []) (sym (append-nil later))

pub runs_are : (tracked : List ℕ) (moments : List Moment) → intervals tracked moments ≡ ends_in tracked None moments []
runs_are tracked moments = told tracked moments None (meets_none moments)

-- ---- a history in two parts

pub ends_append : (tracked : List ℕ) (since : Option Row) (xs ys next : List Moment)
    → ends_in tracked since (xs ++ ys) next ≡ ends_in tracked since xs (ys ++ next) ++ ends_in tracked (left_open tracked since xs (ys ++ next)) ys next
ends_append tracked since [] ys next = refl
ends_append tracked since (x ∷ xs) ys next = rw (append_assoc xs ys next) (ap (λ more. ended tracked since x (xs ++ (ys ++ next)) ++ more) (ends_append tracked (opened tracked since x (xs ++ (ys ++ next))) xs ys next)
    ∙ sym (append_assoc (ended tracked since x (xs ++ (ys ++ next))) (ends_in tracked (opened tracked since x (xs ++ (ys ++ next))) xs (ys ++ next)) _))

pub left_append : (tracked : List ℕ) (since : Option Row) (xs ys next : List Moment)
    → left_open tracked since (xs ++ ys) next ≡ left_open tracked (left_open tracked since xs (ys ++ next)) ys next
left_append tracked since [] ys next = refl
left_append tracked since (x ∷ xs) ys next = ap (λ behind. left_open tracked (opened tracked since x behind) (xs ++ ys) next) (append_assoc xs ys next)
    ∙ left_append tracked (opened tracked since x (xs ++ (ys ++ next))) xs ys next

-- what ends within a part hangs on the head of what follows alone
pub ends_head : (tracked : List ℕ) (since : Option Row) (xs : List Moment) (next : Moment) (ys zs : List Moment)
    → ends_in tracked since xs (next ∷ ys) ≡ ends_in tracked since xs (next ∷ zs)
ends_head tracked since [] next ys zs = refl
ends_head tracked since (x ∷ []) next ys zs = refl
ends_head tracked since (x ∷ (y ∷ xs)) next ys zs = ap (λ more. ended tracked since x (y ∷ []) ++ more) (ends_head tracked (opened tracked since x (y ∷ [])) (y ∷ xs) next ys zs)

pub left_head : (tracked : List ℕ) (since : Option Row) (xs : List Moment) (next : Moment) (ys zs : List Moment)
    → left_open tracked since xs (next ∷ ys) ≡ left_open tracked since xs (next ∷ zs)
left_head tracked since [] next ys zs = refl
left_head tracked since (x ∷ []) next ys zs = refl
left_head tracked since (x ∷ (y ∷ xs)) next ys zs = left_head tracked (opened tracked since x (y ∷ [])) (y ∷ xs) next ys zs
