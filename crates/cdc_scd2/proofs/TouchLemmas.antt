-- How many kept events a splice touches at least.
use Rattle.std.proofs.Common.{◌≡◌, ◌≢◌, ℕ, suc, ◌+◌, ◌≤◌, Bool, true, false, if◌then◌else◌, List, [], ◌∷◌, ◌++◌, length, Option, Some, None, refl, sym, ap, ◌∙◌, append_assoc, arith}
use Rattle.std.specs.Prelude.{unwrap_or}
use Rattle.std.specs.List.{remove}
use Rattle.std.proofs.lemmas.List.{append-nil}
use Rattle.value_core.specs.Order.{Row}
use Rattle.flow_model.specs.History.{Moment, Interval, goes_on, agree, next_sequence}
use Rattle.cdc_runs.specs.Runs.{opened, left_open, stands_by, interval_at, moment_goes_on, goes_through, one_run, recolumned}
use Rattle.cdc_scd2.specs.Looks.{Seen, seen_in, differing}
use Rattle.cdc_scd2.specs.Zones.{IsApart, AreApart, AreOthers}
use Rattle.cdc_runs.proofs.RunLemmas.{left_head}
use Rattle.cdc_runs.proofs.StandLemmas.{and-true, run_goes_on}
use Rattle.cdc_scd2.proofs.DifferLemmas.{heads_differ}
use Rattle.cdc_scd2.proofs.LookLemmas.{seen_append, length-seen, differing-append, remove_middle, run_touched, zone_touched}

-- a history in three parts, with one more moment between the first two
old_parts : (tracked : List ℕ) (front behind after : List Moment)
    → seen_in tracked None (front ++ (behind ++ after)) []
    ≡ seen_in tracked None front (behind ++ after) ++ (seen_in tracked (left_open tracked None front (behind ++ after)) behind after ++ seen_in tracked (left_open tracked (left_open tracked None front (behind ++ after)) behind after) after [])
old_parts tracked front behind after =
    seen_append tracked None front (behind ++ after) []
    ∙ ap (λ next. seen_in tracked None front next ++ seen_in tracked (left_open tracked None front next) (behind ++ after) []) (append-nil (behind ++ after))
    ∙ ap (λ more. seen_in tracked None front (behind ++ after) ++ more) (seen_append tracked (left_open tracked None front (behind ++ after)) behind after []
    ∙ ap (λ next. seen_in tracked (left_open tracked None front (behind ++ after)) behind next ++ seen_in tracked (left_open tracked (left_open tracked None front (behind ++ after)) behind next) after []) (append-nil after))

pub touched_parts : (tracked : List ℕ) (front xs ys after : List Moment) (moment : Moment) (place : ℕ) → length front ≡ place → length xs ≡ length ys
    → let was = left_open tracked None front (xs ++ after) in
    let is = left_open tracked None front (moment ∷ (ys ++ after)) in
    let then' = opened tracked is moment (ys ++ after) in
    differing (seen_in tracked None (front ++ (xs ++ after)) []) (remove (seen_in tracked None (front ++ (moment ∷ (ys ++ after))) []) place)
    ≡ differing (seen_in tracked None front (xs ++ after)) (seen_in tracked None front (moment ∷ (ys ++ after)))
    + (differing (seen_in tracked was xs after) (seen_in tracked then' ys after)
    + differing (seen_in tracked (left_open tracked was xs after) after []) (seen_in tracked (left_open tracked then' ys after) after []))
touched_parts tracked front xs ys after moment place at size =
    let was : Option Row = left_open tracked None front (xs ++ after) in
    let is : Option Row = left_open tracked None front (moment ∷ (ys ++ after)) in
    let then' : Option Row = opened tracked is moment (ys ++ after) in
    let first : Seen = record { columns = moment.columns; interval = interval_at tracked is (moment ∷ (ys ++ after)) } in
    let old : List Seen = seen_in tracked None front (xs ++ after) in
    let new : List Seen = seen_in tracked None front (moment ∷ (ys ++ after)) in
    let removed : remove (seen_in tracked None (front ++ (moment ∷ (ys ++ after))) []) place ≡ new ++ (seen_in tracked then' ys after ++ seen_in tracked (left_open tracked then' ys after) after []) =
    ap (λ all. remove all place) (old_parts tracked front (moment ∷ ys) after)
    ∙ remove_middle new first (seen_in tracked then' ys after ++ seen_in tracked (left_open tracked then' ys after) after []) place (length-seen tracked None front (moment ∷ (ys ++ after)) ∙ at) in
    (λ i. differing (old_parts tracked front xs after i) (removed i))
    ∙ differing-append old new (seen_in tracked was xs after ++ seen_in tracked (left_open tracked was xs after) after []) (seen_in tracked then' ys after ++ seen_in tracked (left_open tracked then' ys after) after [])
    (length-seen tracked None front (xs ++ after) ∙ sym (length-seen tracked None front (moment ∷ (ys ++ after))))
    ∙ ap (λ n. differing old new + n) (differing-append (seen_in tracked was xs after) (seen_in tracked then' ys after) (seen_in tracked (left_open tracked was xs after) after []) (seen_in tracked (left_open tracked then' ys after) after [])
    (length-seen tracked was xs after ∙ size ∙ sym (length-seen tracked then' ys after)))

-- a part of a front, or of what is behind
pub front_least : (tracked : List ℕ) (before run xs ys : List Moment) (since other : Option Row)
    → differing (seen_in tracked (left_open tracked since before (run ++ xs)) run xs) (seen_in tracked (left_open tracked other before (run ++ ys)) run ys)
    ≤ differing (seen_in tracked since (before ++ run) xs) (seen_in tracked other (before ++ run) ys)
front_least tracked before run xs ys since other =
    let mine : List Seen = seen_in tracked since before (run ++ xs) in
    let also : List Seen = seen_in tracked other before (run ++ ys) in
    let e : differing (seen_in tracked since (before ++ run) xs) (seen_in tracked other (before ++ run) ys)
    ≡ differing mine also + differing (seen_in tracked (left_open tracked since before (run ++ xs)) run xs) (seen_in tracked (left_open tracked other before (run ++ ys)) run ys) =
    (λ i. differing (seen_append tracked since before run xs i) (seen_append tracked other before run ys i))
    ∙ differing-append mine also (seen_in tracked (left_open tracked since before (run ++ xs)) run xs) (seen_in tracked (left_open tracked other before (run ++ ys)) run ys) (length-seen tracked since before (run ++ xs) ∙ sym (length-seen tracked other before (run ++ ys))) in
    omega (arith, e)

pub behind_least : (tracked : List ℕ) (run after next : List Moment) (since other : Option Row)
    → differing (seen_in tracked since run (after ++ next)) (seen_in tracked other run (after ++ next)) ≤ differing (seen_in tracked since (run ++ after) next) (seen_in tracked other (run ++ after) next)
behind_least tracked run after next since other =
    let mine : List Seen = seen_in tracked since run (after ++ next) in
    let also : List Seen = seen_in tracked other run (after ++ next) in
    let e : differing (seen_in tracked since (run ++ after) next) (seen_in tracked other (run ++ after) next)
    ≡ differing mine also + differing (seen_in tracked (left_open tracked since run (after ++ next)) after next) (seen_in tracked (left_open tracked other run (after ++ next)) after next) =
    (λ i. differing (seen_append tracked since run after next i) (seen_append tracked other run after next i))
    ∙ differing-append mine also (seen_in tracked (left_open tracked since run (after ++ next)) after next) (seen_in tracked (left_open tracked other run (after ++ next)) after next) (length-seen tracked since run (after ++ next) ∙ sym (length-seen tracked other run (after ++ next))) in
    omega (arith, e)

-- ---- a run of which one moment stands in another interval stands there whole

pub run_interval : (tracked : List ℕ) (run : List Moment) (last : Moment) (xs : List Moment) (since : Option Row) → one_run tracked (run ++ last ∷ []) ≡ true
    → interval_at tracked since (run ++ last ∷ xs) ≡ interval_at tracked (left_open tracked since run (last ∷ xs)) (last ∷ xs)
run_interval tracked [] last xs since one = refl
run_interval tracked (m ∷ []) last xs since one = run_goes_on tracked since m last xs (and-true (moment_goes_on tracked m.columns (last ∷ [])) true one).0
run_interval tracked (m ∷ (n ∷ ms)) last xs since one =
    let both = and-true (moment_goes_on tracked m.columns (n ∷ [])) (one_run tracked (n ∷ (ms ++ last ∷ []))) one in
    run_goes_on tracked since m n (ms ++ last ∷ xs) both.0 ∙ run_interval tracked (n ∷ ms) last xs (opened tracked since m (n ∷ (ms ++ last ∷ xs))) both.1

-- an interval begins where the run of its moment began
abbrev start_of : Option Interval → Option Row
start_of None = None
start_of (Some interval) = Some interval.start

start_by : (tracked : List ℕ) (start : Row) (later : List Moment) (behind : Option Interval) (columns : Row) → (goes_on tracked columns later ≡ true → start_of behind ≡ Some start)
    → start_of (stands_by tracked start later behind (Some columns)) ≡ Some start
start_by tracked start later behind columns past = by (goes_on tracked columns later) past
  where
    by : (test : Bool) → (test ≡ true → start_of behind ≡ Some start) → start_of (if test then behind else Some (record { columns = columns; start = start; end = next_sequence later })) ≡ Some start
    by true h = h refl
    by false h = refl

starts : (tracked : List ℕ) (since : Option Row) (moment : Moment) (later : List Moment) (columns : Row) → moment.columns ≡ Some columns
    → start_of (interval_at tracked since (moment ∷ later)) ≡ Some (unwrap_or since moment.sequence)
starts tracked since moment [] columns is =
    ap (λ c. start_of (stands_by tracked (unwrap_or since moment.sequence) [] None c)) is ∙ start_by tracked (unwrap_or since moment.sequence) [] None columns (λ e. absurd (let none : ⊥ = cc in none))
starts tracked since moment (next ∷ later) columns is =
    let start : Row = unwrap_or since moment.sequence in
    ap (λ c. start_of (stands_by tracked start (next ∷ later) (interval_at tracked (Some start) (next ∷ later)) c)) is
    ∙ start_by tracked start (next ∷ later) (interval_at tracked (Some start) (next ∷ later)) columns (λ e. on next.columns refl e (λ others there. starts tracked (Some start) next later others there))
  where
    no-none : false ≡ true → ⊥
    no-none h = cc

    on : (others : Option Row) → next.columns ≡ others → agree tracked columns next.columns ≡ true
        → ((others : Row) → next.columns ≡ Some others → start_of (interval_at tracked (Some (unwrap_or since moment.sequence)) (next ∷ later)) ≡ Some (unwrap_or since moment.sequence))
        → start_of (interval_at tracked (Some (unwrap_or since moment.sequence)) (next ∷ later)) ≡ Some (unwrap_or since moment.sequence)
    on None there e past = absurd (no-none (ap (agree tracked columns) (sym there) ∙ e))
    on (Some others) there e past = past others there

pub starts_differ : (tracked : List ℕ) (since other : Option Row) (moment : Moment) (later : List Moment) (columns : Row) → moment.columns ≡ Some columns
    → unwrap_or since moment.sequence ≢ unwrap_or other moment.sequence → interval_at tracked since (moment ∷ later) ≢ interval_at tracked other (moment ∷ later)
starts_differ tracked since other moment later columns is apart same =
    apart (inside (sym (starts tracked since moment later columns is) ∙ ap start_of same ∙ starts tracked other moment later columns is))
  where
    inside : Some (unwrap_or since moment.sequence) ≡ Some (unwrap_or other moment.sequence) → unwrap_or since moment.sequence ≡ unwrap_or other moment.sequence
    inside h = cc

-- ---- the run before an event, the zone behind it and the first run behind the zone

same_left : (tracked : List ℕ) (since : Option Row) (before run : List Moment) (last : Moment) (xs ys : List Moment)
    → left_open tracked since before ((run ++ last ∷ []) ++ xs) ≡ left_open tracked since before ((run ++ last ∷ []) ++ ys)
same_left tracked since before [] last xs ys = left_head tracked since before last xs ys
same_left tracked since before (m ∷ ms) last xs ys = left_head tracked since before m ((ms ++ last ∷ []) ++ xs) ((ms ++ last ∷ []) ++ ys)

-- the run before an event whose interval is another one
pub touch_left : (tracked : List ℕ) (before run : List Moment) (at columns : Row) (moments : List Moment) (rows : List Row) (after : List Moment) (sequence : Row) (is : Option Row)
    → let last : Moment = record { sequence = at; columns = Some columns } in
    one_run tracked (run ++ last ∷ []) ≡ true → AreOthers moments rows → AreApart (moments ++ after) → IsApart sequence (moments ++ after) → is ≢ Some columns
    → (goes_through tracked (last ∷ moments) after ≡ true → goes_through tracked (last ∷ record { sequence = sequence; columns = is } ∷ recolumned moments rows) after ≡ true → ⊥)
    → length (run ++ last ∷ [])
    ≤ differing (seen_in tracked None (before ++ (run ++ last ∷ [])) (moments ++ after)) (seen_in tracked None (before ++ (run ++ last ∷ [])) (record { sequence = sequence; columns = is } ∷ (recolumned moments rows ++ after)))
touch_left tracked before run at columns moments rows after sequence is one others apart alone new through =
    let last : Moment = record { sequence = at; columns = Some columns } in
    let event : Moment = record { sequence = sequence; columns = is } in
    let xs : List Moment = moments ++ after in
    let ys : List Moment = event ∷ (recolumned moments rows ++ after) in
    let whole : List Moment = run ++ last ∷ [] in
    let mine : Option Row = left_open tracked None before (whole ++ xs) in
    let also : Option Row = left_open tracked None before (whole ++ ys) in
    let same : mine ≡ also = same_left tracked None before run last xs ys in
    let here : Option Row = left_open tracked mine run (last ∷ xs) in
    let there : left_open tracked also run (last ∷ ys) ≡ here = (λ i. left_open tracked (sym same i) run (last ∷ ys)) ∙ left_head tracked mine run last ys xs in
    let first : interval_at tracked mine (whole ++ xs) ≡ interval_at tracked here (last ∷ xs) = ap (interval_at tracked mine) (append_assoc run (last ∷ []) xs) ∙ run_interval tracked run last xs mine one in
    let second : interval_at tracked also (whole ++ ys) ≡ interval_at tracked here (last ∷ ys) = ap (interval_at tracked also) (append_assoc run (last ∷ []) ys) ∙ run_interval tracked run last ys also one ∙ ap (λ from. interval_at tracked from (last ∷ ys)) there in
    let all : differing (seen_in tracked mine whole xs) (seen_in tracked also whole ys) ≡ length whole =
    run_touched tracked whole mine also xs ys one (λ e. heads_differ tracked here at columns sequence is moments rows after others apart alone new through (sym first ∙ e ∙ second)) in
    omega (arith, all, front_least tracked before whole xs ys None None)

-- the first run behind the zone, where it began at another sequence
pub touch_right : (tracked : List ℕ) (first : Moment) (more after : List Moment) (columns : Row) (since other : Option Row) → one_run tracked (first ∷ more) ≡ true → first.columns ≡ Some columns
    → unwrap_or since first.sequence ≢ unwrap_or other first.sequence
    → length (first ∷ more) ≤ differing (seen_in tracked since ((first ∷ more) ++ after) []) (seen_in tracked other ((first ∷ more) ++ after) [])
touch_right tracked first more after columns since other one is apart =
    let all : differing (seen_in tracked since (first ∷ more) (after ++ [])) (seen_in tracked other (first ∷ more) (after ++ [])) ≡ length (first ∷ more) =
    run_touched tracked (first ∷ more) since other (after ++ []) (after ++ []) one (starts_differ tracked since other first (more ++ (after ++ [])) columns is apart) in
    omega (arith, all, behind_least tracked (first ∷ more) after [] since other)

others_length : (moments : List Moment) (rows : List Row) → AreOthers moments rows → length moments ≡ length (recolumned moments rows)
others_length [] [] others = refl
others_length [] (row ∷ rows) others = absurd others
others_length (moment ∷ moments) [] others = refl
others_length (moment ∷ moments) (row ∷ rows) others = ap suc (others_length moments rows others.1)

-- what a splice touches: as much of the front as is said, the zone, and as much of what is behind it as is said
pub touches : (tracked : List ℕ) (front moments after : List Moment) (moment : Moment) (rows : List Row) (place left right : ℕ) → length front ≡ place → AreOthers moments rows
    → let was = left_open tracked None front (moments ++ after) in
    let then' = opened tracked (left_open tracked None front (moment ∷ (recolumned moments rows ++ after))) moment (recolumned moments rows ++ after) in
    left ≤ differing (seen_in tracked None front (moments ++ after)) (seen_in tracked None front (moment ∷ (recolumned moments rows ++ after)))
    → right ≤ differing (seen_in tracked (left_open tracked was moments after) after []) (seen_in tracked (left_open tracked then' (recolumned moments rows) after) after [])
    → left + length rows + right ≤ differing (seen_in tracked None (front ++ (moments ++ after)) []) (remove (seen_in tracked None (front ++ (moment ∷ (recolumned moments rows ++ after))) []) place)
touches tracked front moments after moment rows place left right at others l r =
    let was : Option Row = left_open tracked None front (moments ++ after) in
    let then' : Option Row = opened tracked (left_open tracked None front (moment ∷ (recolumned moments rows ++ after))) moment (recolumned moments rows ++ after) in
    omega (arith, l, r, touched_parts tracked front moments (recolumned moments rows) after moment place at (others_length moments rows others), zone_touched tracked moments rows was then' after after others)
