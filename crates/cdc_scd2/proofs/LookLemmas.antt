-- An event touches each kept event of the runs that it changes, and each one whose effective columns it changes.
use Rattle.std.proofs.Common.{◌≡◌, ◌≢◌, ℕ, suc, ◌+◌, ◌-◌, Bool, true, false, ◌&&◌, if◌then◌else◌, List, [], ◌∷◌, ◌++◌, length, Option, Some, None, refl, sym, ap, ◌∙◌, append_assoc, arith}
use Rattle.std.specs.List.{remove}
use Rattle.std.proofs.lemmas.List.Edits.{remove-append_right}
use Rattle.value_core.specs.Order.{Row, same_row}
use Rattle.flow_model.specs.History.{Moment, Interval}
use Rattle.cdc_runs.specs.Runs.{opened, left_open, interval_at, moment_goes_on, one_run, same_columns, recolumned}
use Rattle.cdc_scd2.specs.Looks.{Seen, seen_in, same_interval, same_seen, differing}
use Rattle.cdc_scd2.specs.Zones.{IsOther, AreOthers}
use Rattle.cdc_runs.proofs.StandLemmas.{and-true, run_goes_on, same_columns-is, same_row-is}

-- ---- seen alike is alike

same_interval-is : (a b : Option Interval) → same_interval a b ≡ true → a ≡ b
same_interval-is None None e = refl
same_interval-is None (Some b) e = cc
same_interval-is (Some a) None e = cc
same_interval-is (Some a) (Some b) e =
    let first = and-true (same_row a.columns b.columns && same_row a.start b.start) (same_columns a.end b.end) e in
    let second = and-true (same_row a.columns b.columns) (same_row a.start b.start) first.0 in
    λ i. Some (record { columns = same_row-is a.columns b.columns second.0 i; start = same_row-is a.start b.start second.1 i; end = same_columns-is a.end b.end first.1 i })

one_differs : (a b : Seen) (as' bs : List Seen) (n : ℕ) → (same_seen a b ≡ true → ⊥) → differing as' bs ≡ n → differing (a ∷ as') (b ∷ bs) ≡ suc n
one_differs a b as' bs n other more = by (same_seen a b) other
  where
    by : (test : Bool) → (test ≡ true → ⊥) → (if test then 0 else 1) + differing as' bs ≡ suc n
    by true h = absurd (h refl)
    by false h = omega arith

-- ---- a list in parts

pub seen_append : (tracked : List ℕ) (since : Option Row) (xs ys next : List Moment)
    → seen_in tracked since (xs ++ ys) next ≡ seen_in tracked since xs (ys ++ next) ++ seen_in tracked (left_open tracked since xs (ys ++ next)) ys next
seen_append tracked since [] ys next = refl
seen_append tracked since (x ∷ xs) ys next =
    ap (λ behind. record { columns = x.columns; interval = interval_at tracked since (x ∷ behind) } ∷ seen_in tracked (opened tracked since x behind) (xs ++ ys) next) (append_assoc xs ys next)
    ∙ ap (λ more. record { columns = x.columns; interval = interval_at tracked since (x ∷ (xs ++ (ys ++ next))) } ∷ more) (seen_append tracked (opened tracked since x (xs ++ (ys ++ next))) xs ys next)

pub length-seen : (tracked : List ℕ) (since : Option Row) (xs next : List Moment) → length (seen_in tracked since xs next) ≡ length xs
length-seen tracked since [] next = refl
length-seen tracked since (x ∷ xs) next = ap suc (length-seen tracked (opened tracked since x (xs ++ next)) xs next)

pub differing-append : (as' bs cs ds : List Seen) → length as' ≡ length bs → differing (as' ++ cs) (bs ++ ds) ≡ differing as' bs + differing cs ds
differing-append [] [] cs ds e = omega arith
differing-append [] (b ∷ bs) cs ds e = absurd (omega arith)
differing-append (a ∷ as') [] cs ds e = absurd (omega arith)
differing-append (a ∷ as') (b ∷ bs) cs ds e = omega (arith, differing-append as' bs cs ds (omega arith))

pub remove_middle : (as' : List Seen) (b : Seen) (bs : List Seen) (n : ℕ) → length as' ≡ n → remove (as' ++ b ∷ bs) n ≡ as' ++ bs
remove_middle as' b bs n e = remove-append_right as' (b ∷ bs) n n e (omega arith) ∙ (let none : n - n ≡ 0 = omega arith in ap (λ k. as' ++ remove (b ∷ bs) k) none)

-- ---- a whole run stands in another interval

pub run_touched : (tracked : List ℕ) (run : List Moment) (since other : Option Row) (xs ys : List Moment) → one_run tracked run ≡ true
    → interval_at tracked since (run ++ xs) ≢ interval_at tracked other (run ++ ys) → differing (seen_in tracked since run xs) (seen_in tracked other run ys) ≡ length run
run_touched tracked [] since other xs ys one apart = refl
run_touched tracked (moment ∷ []) since other xs ys one apart =
    one_differs (record { columns = moment.columns; interval = interval_at tracked since (moment ∷ xs) }) (record { columns = moment.columns; interval = interval_at tracked other (moment ∷ ys) }) [] [] 0
    (λ e. apart (same_interval-is (interval_at tracked since (moment ∷ xs)) (interval_at tracked other (moment ∷ ys)) (and-true (same_columns moment.columns moment.columns) (same_interval (interval_at tracked since (moment ∷ xs)) (interval_at tracked other (moment ∷ ys))) e).1)) refl
run_touched tracked (moment ∷ (next ∷ more)) since other xs ys one apart =
    let both = and-true (moment_goes_on tracked moment.columns (next ∷ [])) (one_run tracked (next ∷ more)) one in
    one_differs (record { columns = moment.columns; interval = interval_at tracked since (moment ∷ (next ∷ (more ++ xs))) }) (record { columns = moment.columns; interval = interval_at tracked other (moment ∷ (next ∷ (more ++ ys))) })
    (seen_in tracked (opened tracked since moment (next ∷ (more ++ xs))) (next ∷ more) xs) (seen_in tracked (opened tracked other moment (next ∷ (more ++ ys))) (next ∷ more) ys) (length (next ∷ more))
    (λ e. apart (same_interval-is (interval_at tracked since (moment ∷ (next ∷ (more ++ xs)))) (interval_at tracked other (moment ∷ (next ∷ (more ++ ys)))) (and-true (same_columns moment.columns moment.columns) (same_interval (interval_at tracked since (moment ∷ (next ∷ (more ++ xs)))) (interval_at tracked other (moment ∷ (next ∷ (more ++ ys))))) e).1))
    (run_touched tracked (next ∷ more) (opened tracked since moment (next ∷ (more ++ xs))) (opened tracked other moment (next ∷ (more ++ ys))) xs ys both.1
    (λ e. apart (run_goes_on tracked since moment next (more ++ xs) both.0 ∙ e ∙ sym (run_goes_on tracked other moment next (more ++ ys) both.0))))

-- ---- the zone

other_columns : (columns : Option Row) (row : Row) → IsOther columns row → same_columns columns (Some row) ≡ true → ⊥
other_columns None row other e = other
other_columns (Some columns) row other e = other (same_row-is columns row e)

pub zone_touched : (tracked : List ℕ) (moments : List Moment) (rows : List Row) (since other : Option Row) (xs ys : List Moment) → AreOthers moments rows
    → differing (seen_in tracked since moments xs) (seen_in tracked other (recolumned moments rows) ys) ≡ length rows
zone_touched tracked [] [] since other xs ys others = refl
zone_touched tracked [] (row ∷ rows) since other xs ys others = absurd others
zone_touched tracked (moment ∷ moments) [] since other xs ys others = absurd others
zone_touched tracked (moment ∷ moments) (row ∷ rows) since other xs ys others =
    let changed : Moment = record { sequence = moment.sequence; columns = Some row } in
    one_differs (record { columns = moment.columns; interval = interval_at tracked since (moment ∷ (moments ++ xs)) }) (record { columns = Some row; interval = interval_at tracked other (changed ∷ (recolumned moments rows ++ ys)) })
    (seen_in tracked (opened tracked since moment (moments ++ xs)) moments xs) (seen_in tracked (opened tracked other changed (recolumned moments rows ++ ys)) (recolumned moments rows) ys) (length rows)
    (λ e. other_columns moment.columns row others.0 (and-true (same_columns moment.columns (Some row)) (same_interval (interval_at tracked since (moment ∷ (moments ++ xs))) (interval_at tracked other (changed ∷ (recolumned moments rows ++ ys)))) e).0)
    (zone_touched tracked moments rows (opened tracked since moment (moments ++ xs)) (opened tracked other changed (recolumned moments rows ++ ys)) xs ys others.1)
