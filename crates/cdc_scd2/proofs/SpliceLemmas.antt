-- A splice within a history.
use Rattle.std.proofs.Common.{◌≡◌, ◌⊎◌, inl, inr, ℕ, zero, suc, ◌+◌, ◌-◌, ◌<◌, ◌≤◌, Bool, true, false, ◌&&◌, ◌||◌, if◌then◌else◌, List, [], ◌∷◌, ◌++◌, length, take, drop, map, slice_get, slice_index_or, Option, Some, None, refl, sym, ap, ◌∙◌, subst, append_assoc, arith}
use Rattle.std.specs.Prelude.{option_to_list, unwrap_or}
use Rattle.std.proofs.lemmas.List.{append-nil, map-append, take_at, drop_at, length_push, length-take-le, take-append-drop}
use Rattle.value_core.specs.declared.change.Change.{Change}
use Rattle.value_core.specs.Bags.{net_change}
use Rattle.value_core.specs.Order.{Row}
use Rattle.event_history.specs.declared.history.Entry.{Entry}
use Rattle.flow_model.specs.Feed.{pick}
use Rattle.flow_model.specs.History.{Moment, Interval, agree, interval_row, intervals}
use Rattle.cdc_runs.specs.Entries.{IsRunFrom, Stops, columns_after, moment_of, moments_of}
use Rattle.cdc_scd2.specs.Cache.{recached}
use Rattle.cdc_scd2.specs.Splices.{BeginsAs, Turns, is_quiet, leaves_rows, rows_of, spliced}
use Rattle.cdc_runs.specs.Runs.{ended_by, opened_by, opened, ends_in, left_open, moment_goes_on, goes_through, one_run}
use Rattle.cdc_scd2.specs.Pays.{LooksBack, LooksBehind, LooksFrom}
use Rattle.cdc_runs.proofs.RunLemmas.{ends_head, left_head, left_append}
use Rattle.cdc_runs.proofs.StandLemmas.{and-true, ends_start, left_start, same_columns-is, same_row-itself, stopped_opened, through_opened, through_ends, through_left, goes_on_head}
use Rattle.cdc_scd2.proofs.MiddleLemmas.{middle_net}
use Rattle.net_changes.proofs.NetLemmas.{net_within}
use Rattle.cdc_scd2.proofs.TurnLemmas.{head_of}

-- ---- a history in three parts, and an entry in the middle one

recached_append : (zs cs : List Entry) (rows : List Row) → length zs ≡ length rows → recached (zs ++ cs) rows ≡ recached zs rows ++ cs
recached_append [] cs [] e = refl
recached_append [] cs (row ∷ rows) e = absurd (let none : ⊥ = omega arith in none)
recached_append (z ∷ zs) cs [] e = absurd (let none : ⊥ = omega arith in none)
recached_append (z ∷ zs) cs (row ∷ rows) e = ap (λ more. record { event = z.event; effective = row } ∷ more) (recached_append zs cs rows (omega arith))

pub spliced_parts : (before front zone after : List Entry) (entry : Entry) (rows : List Row) (place : ℕ) → length (before ++ front) ≡ place → length zone ≡ length rows
    → spliced (before ++ ((front ++ zone) ++ after)) place entry rows ≡ before ++ ((front ++ entry ∷ recached zone rows) ++ after)
spliced_parts before front zone after entry rows place at size =
    let parts : before ++ ((front ++ zone) ++ after) ≡ (before ++ front) ++ (zone ++ after) = ap (λ more. before ++ more) (append_assoc front zone after) ∙ sym (append_assoc before front (zone ++ after)) in
    ap (λ all. spliced all place entry rows) parts
    ∙ (λ i. take_at (before ++ front) (zone ++ after) place at i ++ entry ∷ recached (drop_at (before ++ front) (zone ++ after) place at i) rows)
    ∙ ap (λ more. (before ++ front) ++ entry ∷ more) (recached_append zone after rows size)
    ∙ append_assoc before front (entry ∷ (recached zone rows ++ after))
    ∙ ap (λ more. before ++ more) (sym (append_assoc front (entry ∷ recached zone rows) after))

rows_parts : (tracked : List ℕ) (before xs after : List Entry) → rows_of tracked (before ++ (xs ++ after)) ≡ map interval_row (intervals tracked (moments_of before ++ (moments_of xs ++ moments_of after)))
rows_parts tracked before xs after = ap (λ ms. map interval_row (intervals tracked ms)) (map-append moment_of before (xs ++ after) ∙ ap (λ more. moments_of before ++ more) (map-append moment_of xs after))

-- ---- where there is no entry before

pub first_change : (tracked : List ℕ) (zone after : List Entry) (entry : Entry) (rows : List Row) (change : Change) → length zone ≡ length rows
    → Turns tracked None (moments_of zone) (moments_of (entry ∷ recached zone rows)) (moments_of after) change
    → change ≡ net_change (rows_of tracked (zone ++ after)) (rows_of tracked (spliced (zone ++ after) 0 entry rows))
first_change tracked zone after entry rows change size turns =
    turns.net ∙ sym (middle_net tracked [] (moments_of zone) (moments_of (entry ∷ recached zone rows)) (moments_of after) [] None turns.old turns.new turns.rest
    (record { same_ends = refl; same_start = refl; behind = turns.first }) (record { same_ends = refl; same_start = refl; behind = turns.second }))
    ∙ (λ i. net_change (sym (rows_parts tracked [] zone after) i) (sym (ap (rows_of tracked) (spliced_parts [] [] zone after entry rows 0 refl size) ∙ rows_parts tracked [] (entry ∷ recached zone rows) after) i))

-- ---- where there is one

later_net : (tracked : List ℕ) (before zone after : List Entry) (last entry : Entry) (rows : List Row) (place : ℕ) (old new rest : List Interval) → length before + 1 ≡ place → length zone ≡ length rows
    → let since = left_open tracked None (moments_of before) (moments_of (last ∷ [])) in
    ends_in tracked (left_open tracked since (moments_of (last ∷ zone)) (moments_of after)) (moments_of after) [] ≡ old ++ rest
    → ends_in tracked (left_open tracked since (moments_of (last ∷ (entry ∷ recached zone rows))) (moments_of after)) (moments_of after) [] ≡ new ++ rest
    → net_change (rows_of tracked (before ++ ((last ∷ zone) ++ after))) (rows_of tracked (spliced (before ++ ((last ∷ zone) ++ after)) place entry rows))
    ≡ net_change (map interval_row (ends_in tracked since (moments_of (last ∷ zone)) (moments_of after) ++ old)) (map interval_row (ends_in tracked since (moments_of (last ∷ (entry ∷ recached zone rows))) (moments_of after) ++ new))
later_net tracked before zone after last entry rows place old new rest at size first second =
    let since : Option Row = left_open tracked None (moments_of before) (moments_of (last ∷ [])) in
    let here : length (before ++ last ∷ []) ≡ place = length_push before last ∙ at in
    (λ i. net_change (rows_parts tracked before (last ∷ zone) after i) ((ap (rows_of tracked) (spliced_parts before (last ∷ []) zone after entry rows place here size) ∙ rows_parts tracked before (last ∷ (entry ∷ recached zone rows)) after) i))
    ∙ middle_net tracked (moments_of before) (moments_of (last ∷ zone)) (moments_of (last ∷ (entry ∷ recached zone rows))) (moments_of after) (ends_in tracked None (moments_of before) (moments_of (last ∷ []))) since old new rest
    (record { same_ends = ends_head tracked None (moments_of before) (moment_of last) (moments_of zone ++ moments_of after) []; same_start = left_head tracked None (moments_of before) (moment_of last) (moments_of zone ++ moments_of after) []; behind = first })
    (record { same_ends = ends_head tracked None (moments_of before) (moment_of last) (moments_of (entry ∷ recached zone rows) ++ moments_of after) []; same_start = left_head tracked None (moments_of before) (moment_of last) (moments_of (entry ∷ recached zone rows) ++ moments_of after) []; behind = second })

no_change : (rows : List Row) → record { removed = []; added = [] } ≡ net_change rows rows
no_change rows = sym ((λ i. net_change (sym (append-nil rows) i) (sym (append-nil rows) i)) ∙ net_within rows [] [] [])

-- what leaves the ends and what goes on as they are
pub later_same : (tracked : List ℕ) (before zone after : List Entry) (last entry : Entry) (rows : List Row) (place : ℕ) → length before + 1 ≡ place → length zone ≡ length rows
    → ((since : Option Row) → (ends_in tracked since (moments_of (last ∷ zone)) (moments_of after) ≡ ends_in tracked since (moments_of (last ∷ (entry ∷ recached zone rows))) (moments_of after))
    × (left_open tracked since (moments_of (last ∷ zone)) (moments_of after) ≡ left_open tracked since (moments_of (last ∷ (entry ∷ recached zone rows))) (moments_of after)))
    → record { removed = []; added = [] } ≡ net_change (rows_of tracked (before ++ ((last ∷ zone) ++ after))) (rows_of tracked (spliced (before ++ ((last ∷ zone) ++ after)) place entry rows))
later_same tracked before zone after last entry rows place at size same =
    let since : Option Row = left_open tracked None (moments_of before) (moments_of (last ∷ [])) in
    let rest : List Interval = ends_in tracked (left_open tracked since (moments_of (last ∷ (entry ∷ recached zone rows))) (moments_of after)) (moments_of after) [] in
    no_change (map interval_row (ends_in tracked since (moments_of (last ∷ (entry ∷ recached zone rows))) (moments_of after) ++ []))
    ∙ (λ i. net_change (map interval_row (sym (same since).0 i ++ [])) (map interval_row (ends_in tracked since (moments_of (last ∷ (entry ∷ recached zone rows))) (moments_of after) ++ [])))
    ∙ sym (later_net tracked before zone after last entry rows place [] [] rest at size (ap (λ from. ends_in tracked from (moments_of after) []) (same since).1) refl)

-- an entry with the columns that are there already
quiet_columns : (tracked : List ℕ) (a b : Row) (after : List Moment) (since : Option Row) (columns : Option Row)
    → (ended_by tracked since a after columns ++ [] ≡ ended_by tracked since a (record { sequence = b; columns = columns } ∷ after) columns
    ++ (ended_by tracked (opened_by tracked since a (record { sequence = b; columns = columns } ∷ after) columns) b after columns ++ []))
    × (opened_by tracked since a after columns ≡ opened_by tracked (opened_by tracked since a (record { sequence = b; columns = columns } ∷ after) columns) b after columns)
quiet_columns tracked a b after since None = (refl, refl)
quiet_columns tracked a b after since (Some columns) =
    let on : agree tracked columns (Some columns) ≡ true = same_row-itself (pick tracked columns) in (
      (λ i. (if on-back i then [] else record { columns = columns; start = unwrap_or since a; end = Some b } ∷ []) ++ (ended_by tracked (if on-back i then Some (unwrap_or since a) else None) b after (Some columns) ++ [])),
      (λ i. opened_by tracked (if on-back i then Some (unwrap_or since a) else None) b after (Some columns)),
    )
  where
    on-back : true ≡ agree tracked columns (Some columns)
    on-back = sym (same_row-itself (pick tracked columns))

pub quiet_same : (tracked : List ℕ) (after : List Entry) (last entry : Entry) → columns_after entry ≡ columns_after last → (since : Option Row)
    → (ends_in tracked since (moments_of (last ∷ [])) (moments_of after) ≡ ends_in tracked since (moments_of (last ∷ (entry ∷ []))) (moments_of after))
    × (left_open tracked since (moments_of (last ∷ [])) (moments_of after) ≡ left_open tracked since (moments_of (last ∷ (entry ∷ []))) (moments_of after))
quiet_same tracked after last entry same since =
    subst (λ columns. (ends_in tracked since (moments_of (last ∷ [])) (moments_of after) ≡ ends_in tracked since (moment_of last ∷ (record { sequence = entry.event.sequence; columns = columns } ∷ [])) (moments_of after))
    × (left_open tracked since (moments_of (last ∷ [])) (moments_of after) ≡ left_open tracked since (moment_of last ∷ (record { sequence = entry.event.sequence; columns = columns } ∷ [])) (moments_of after))) (sym same)
    (quiet_columns tracked last.event.sequence entry.event.sequence (moments_of after) since (columns_after last))

pub through_same : (tracked : List ℕ) (after zone more : List Entry) (last : Entry) → goes_through tracked (moments_of (last ∷ zone)) (moments_of after) ≡ true → goes_through tracked (moments_of (last ∷ more)) (moments_of after) ≡ true → (since : Option Row)
    → (ends_in tracked since (moments_of (last ∷ zone)) (moments_of after) ≡ ends_in tracked since (moments_of (last ∷ more)) (moments_of after))
    × (left_open tracked since (moments_of (last ∷ zone)) (moments_of after) ≡ left_open tracked since (moments_of (last ∷ more)) (moments_of after))
through_same tracked after zone more last a b since = (
  through_ends tracked since (moments_of (last ∷ zone)) (moments_of after) a ∙ sym (through_ends tracked since (moments_of (last ∷ more)) (moments_of after) b),
  through_left tracked since (moment_of last) (moments_of zone) (moments_of after) a ∙ sym (through_left tracked since (moment_of last) (moments_of more) (moments_of after) b),
)

-- ---- where a run began

none_ends : (tracked : List ℕ) (since other : Option Row) (x : Entry) (xs next : List Moment) → columns_after x ≡ None
    → (ends_in tracked since (moment_of x ∷ xs) next ≡ ends_in tracked other (moment_of x ∷ xs) next) × (left_open tracked since (moment_of x ∷ xs) next ≡ left_open tracked other (moment_of x ∷ xs) next)
none_ends tracked since other x xs next none = (
  (λ i. ended_by tracked since x.event.sequence (xs ++ next) (none i) ++ ends_in tracked (opened_by tracked since x.event.sequence (xs ++ next) (none i)) xs next)
      ∙ (λ i. ended_by tracked other x.event.sequence (xs ++ next) (sym none i) ++ ends_in tracked (opened_by tracked other x.event.sequence (xs ++ next) (sym none i)) xs next),
  (λ i. left_open tracked (opened_by tracked since x.event.sequence (xs ++ next) (none i)) xs next)
      ∙ (λ i. left_open tracked (opened_by tracked other x.event.sequence (xs ++ next) (sym none i)) xs next),
)

pub begins_none : (tracked : List ℕ) (entries : List Entry) (place : ℕ) (last : Entry) → last ≡ slice_index_or entries place last → place < length entries → columns_after last ≡ None
    → BeginsAs tracked entries place None
begins_none tracked entries place last at within none =
    let since : Option Row = left_open tracked None (moments_of (take place entries)) (moments_of (drop place entries)) in
    record {
      ends = λ x xs next here. (none_ends tracked None since x xs next (is x here)).0;
      goes_on = λ x xs next here. (none_ends tracked None since x xs next (is x here)).1;
    }
  where
    same : (ys : List Entry) (k : ℕ) (x y : Entry) → k < length ys → x ≡ slice_index_or ys k x → y ≡ slice_index_or ys k y → x ≡ y
    same [] k x y small a b = absurd (let none' : ⊥ = omega arith in none')
    same (z ∷ zs) zero x y small a b = a ∙ sym b
    same (z ∷ zs) (suc k) x y small a b = same zs k x y (omega arith) a b

    is : (x : Entry) → x ≡ slice_index_or entries place x → columns_after x ≡ None
    is x here = ap columns_after (same entries place x last within here at) ∙ none

-- the sequence of the first of these moments, or else of another one
abbrev begin : List Moment → Moment → Row
begin [] x = x.sequence
begin (y ∷ ys) x = y.sequence

-- a run that goes on into a moment began at the first of the moments before it
run_left : (tracked : List ℕ) (run : List Moment) (x : Moment) (more : List Moment) (since : Option Row) → one_run tracked (run ++ x ∷ []) ≡ true
    → unwrap_or (left_open tracked since run (x ∷ more)) x.sequence ≡ unwrap_or since (begin run x)
run_left tracked [] x more since one = refl
run_left tracked (y ∷ []) x more since one =
    let both = and-true (moment_goes_on tracked y.columns (x ∷ [])) true one in
    ap (λ from. unwrap_or from x.sequence) (through_opened tracked since y.sequence (x ∷ more) y.columns (goes_on_head tracked x more y.columns both.0))
run_left tracked (y ∷ (z ∷ zs)) x more since one =
    let both = and-true (moment_goes_on tracked y.columns (z ∷ [])) (one_run tracked (z ∷ (zs ++ x ∷ []))) one in
    ap (λ from. unwrap_or (left_open tracked from (z ∷ zs) (x ∷ more)) x.sequence) (through_opened tracked since y.sequence (z ∷ (zs ++ x ∷ more)) y.columns (goes_on_head tracked z (zs ++ x ∷ more) y.columns both.0))
    ∙ run_left tracked (z ∷ zs) x more (Some (unwrap_or since y.sequence)) both.1

-- nothing goes on behind moments of which the last stops
stops_left : (tracked : List ℕ) (since : Option Row) (moment : Moment) (moments behind : List Moment) → Stops tracked (moment ∷ moments) behind → left_open tracked since (moment ∷ moments) behind ≡ None
stops_left tracked since moment [] behind stops = stopped_opened tracked since moment.sequence behind moment.columns stops
stops_left tracked since moment (next ∷ more) behind stops = stops_left tracked (opened tracked since moment (next ∷ (more ++ behind))) next more behind stops

stops_none : (tracked : List ℕ) (moments behind : List Moment) → Stops tracked moments behind → left_open tracked None moments behind ≡ None
stops_none tracked [] behind stops = refl
stops_none tracked (moment ∷ moments) behind stops = stops_left tracked None moment moments behind stops

-- a list in three parts around two places
pub in_places : (entries : List Entry) (start size : ℕ) (last : Entry) → start + size < length entries → last ≡ slice_index_or entries (start + size) last
    → (take (suc size) (drop start entries) ≡ take size (drop start entries) ++ last ∷ [])
    × (drop start entries ≡ take size (drop start entries) ++ last ∷ drop (suc (start + size)) entries)
    × (take (start + size) entries ≡ take start entries ++ take size (drop start entries))
    × (drop (start + size) entries ≡ last ∷ drop (suc (start + size)) entries)
in_places [] start size last within at = absurd (let none : ⊥ = omega arith in none)
in_places (x ∷ xs) zero zero last within at =
    let is : last ≡ x = at in
    (ap (λ y. y ∷ []) (sym is), ap (λ y. y ∷ xs) (sym is), refl, ap (λ y. y ∷ xs) (sym is))
in_places (x ∷ xs) zero (suc size) last within at =
    let e : zero + suc size ≡ suc (zero + size) = omega arith in
    let rest = in_places xs zero size last (omega arith) (at ∙ ap (λ k. slice_index_or (x ∷ xs) k last) e) in
    (ap (λ zs. x ∷ zs) rest.0, rw e (ap (λ zs. x ∷ zs) rest.1), rw e (ap (λ zs. x ∷ zs) rest.2), rw e rest.3)
in_places (x ∷ xs) (suc start) size last within at =
    let e : suc start + size ≡ suc (start + size) = omega arith in
    let rest = in_places xs start size last (omega arith) (at ∙ ap (λ k. slice_index_or (x ∷ xs) k last) e) in
    (rest.0, rw e rest.1, rw e (ap (λ zs. x ∷ zs) rest.2), rw e rest.3)

begin_is : (run : List Entry) (last : Entry) (more : List Entry) (first : Entry) → first ≡ slice_index_or (run ++ last ∷ more) 0 first → begin (moments_of run) (moment_of last) ≡ first.event.sequence
begin_is [] last more first at = ap (λ e. e.event.sequence) (sym at)
begin_is (r ∷ rs) last more first at = ap (λ e. e.event.sequence) (sym at)

pub drop_index : (entries : List Entry) (start : ℕ) (d : Entry) → slice_index_or (drop start entries) 0 d ≡ slice_index_or entries start d
drop_index entries zero d = refl
drop_index [] (suc start) d = refl
drop_index (x ∷ xs) (suc start) d = drop_index xs start d

begun_at_first : (tracked : List ℕ) (entries : List Entry) (start size place : ℕ) (last first : Entry) → start + size ≡ place → place < length entries → last ≡ slice_index_or entries place last → first ≡ slice_index_or entries start first
    → one_run tracked (moments_of (take (suc size) (drop start entries))) ≡ true → Stops tracked (moments_of (take start entries)) (moments_of (drop start entries))
    → unwrap_or (left_open tracked None (moments_of (take place entries)) (moments_of (drop place entries))) last.event.sequence ≡ first.event.sequence
begun_at_first tracked entries start size place last first sum within at here one stops =
    let parts = in_places entries start size last (omega arith) (at ∙ ap (λ k. slice_index_or entries k last) (sym sum)) in
    let run : List Entry = take size (drop start entries) in
    let more : List Entry = drop (suc (start + size)) entries in
    let front : moments_of (take place entries) ≡ moments_of (take start entries) ++ moments_of run = ap (λ k. moments_of (take k entries)) (sym sum) ∙ ap moments_of parts.2 ∙ map-append moment_of (take start entries) run in
    let back : moments_of (drop place entries) ≡ moment_of last ∷ moments_of more = ap (λ k. moments_of (drop k entries)) (sym sum) ∙ ap moments_of parts.3 in
    let whole : moments_of (drop start entries) ≡ moments_of run ++ moment_of last ∷ moments_of more = ap moments_of parts.1 ∙ map-append moment_of run (last ∷ more) in
    let single : one_run tracked (moments_of run ++ moment_of last ∷ []) ≡ true = ap (one_run tracked) (sym (ap moments_of parts.0 ∙ map-append moment_of run (last ∷ []))) ∙ one in
    (λ i. unwrap_or (left_open tracked None (front i) (back i)) last.event.sequence)
    ∙ ap (λ from. unwrap_or from last.event.sequence) (left_append tracked None (moments_of (take start entries)) (moments_of run) (moment_of last ∷ moments_of more)
    ∙ ap (λ from. left_open tracked from (moments_of run) (moment_of last ∷ moments_of more)) (ap (left_open tracked None (moments_of (take start entries))) (sym whole) ∙ stops_none tracked (moments_of (take start entries)) (moments_of (drop start entries)) stops))
    ∙ run_left tracked (moments_of run) (moment_of last) (moments_of more) None single
    ∙ begin_is run last more first (here ∙ sym (drop_index entries start first) ∙ ap (λ zs. slice_index_or zs 0 first) parts.1)

pub one_at : (ys : List Entry) (k : ℕ) (x y : Entry) → k < length ys → x ≡ slice_index_or ys k x → y ≡ slice_index_or ys k y → x ≡ y
one_at [] k x y small a b = absurd (let none' : ⊥ = omega arith in none')
one_at (z ∷ zs) zero x y small a b = a ∙ sym b
one_at (z ∷ zs) (suc k) x y small a b = one_at zs k x y (omega arith) a b

pub begins_at : (tracked : List ℕ) (entries : List Entry) (start place : ℕ) (last first : Entry) (since : Row) → IsRunFrom tracked entries start place → place < length entries
    → last ≡ slice_index_or entries place last → first ≡ slice_index_or entries start first → since ≡ first.event.sequence
    → BeginsAs tracked entries place (Some since)
begins_at tracked entries start place last first since run within at here copied =
    let ordered : start ≤ place = run.ordered in
    let n : suc place - start ≡ suc (place - start) = omega arith in
    let s : Option Row = left_open tracked None (moments_of (take place entries)) (moments_of (drop place entries)) in
    let is : unwrap_or s last.event.sequence ≡ since = begun_at_first tracked entries start (place - start) place last first (omega arith) within at here (subst (λ k. one_run tracked (moments_of (take k (drop start entries))) ≡ true) n run.one) run.stops ∙ sym copied in
    record {
      ends = λ x xs next there. let e : unwrap_or s x.event.sequence ≡ since = ap (λ y. unwrap_or s y.event.sequence) (one_at entries place x last within there at) ∙ is in
          ap (λ q. ends_in tracked (Some q) (moment_of x ∷ xs) next) (sym e) ∙ sym (ends_start tracked s (moment_of x) xs next);
      goes_on = λ x xs next there. let e : unwrap_or s x.event.sequence ≡ since = ap (λ y. unwrap_or s y.event.sequence) (one_at entries place x last within there at) ∙ is in
          ap (λ q. left_open tracked (Some q) (moment_of x ∷ xs) next) (sym e) ∙ sym (left_start tracked s (moment_of x) xs next);
    }

-- ---- the change where there is an entry before

pub later_change : (tracked : List ℕ) (before zone after : List Entry) (last entry : Entry) (rows : List Row) (place : ℕ) (since : Option Row) (change : Change) → length before + 1 ≡ place → length zone ≡ length rows
    → BeginsAs tracked (before ++ ((last ∷ zone) ++ after)) (length before) since
    → Turns tracked since (moments_of (last ∷ zone)) (moments_of (last ∷ (entry ∷ recached zone rows))) (moments_of after) change
    → change ≡ net_change (rows_of tracked (before ++ ((last ∷ zone) ++ after))) (rows_of tracked (spliced (before ++ ((last ∷ zone) ++ after)) place entry rows))
later_change tracked before zone after last entry rows place since change at size begins turns =
    let s : Option Row = left_open tracked None (moments_of before) (moments_of (last ∷ [])) in
    let same : left_open tracked None (moments_of (take (length before) (before ++ ((last ∷ zone) ++ after)))) (moments_of (drop (length before) (before ++ ((last ∷ zone) ++ after)))) ≡ s =
    (λ i. left_open tracked None (moments_of (take_at before ((last ∷ zone) ++ after) (length before) refl i)) (moments_of (drop_at before ((last ∷ zone) ++ after) (length before) refl i)))
    ∙ left_head tracked None (moments_of before) (moment_of last) (moments_of (zone ++ after)) [] in
    let here : (d : Entry) → last ≡ slice_index_or (before ++ ((last ∷ zone) ++ after)) (length before) d = λ d. sym (sym (drop_index (before ++ ((last ∷ zone) ++ after)) (length before) d) ∙ ap (λ zs. slice_index_or zs 0 d) (drop_at before ((last ∷ zone) ++ after) (length before) refl)) in
    let ends : (xs : List Moment) → ends_in tracked since (moment_of last ∷ xs) (moments_of after) ≡ ends_in tracked s (moment_of last ∷ xs) (moments_of after) =
    λ xs. begins.ends last xs (moments_of after) (here last) ∙ ap (λ from. ends_in tracked from (moment_of last ∷ xs) (moments_of after)) same in
    let goes : (xs : List Moment) → left_open tracked since (moment_of last ∷ xs) (moments_of after) ≡ left_open tracked s (moment_of last ∷ xs) (moments_of after) =
    λ xs. begins.goes_on last xs (moments_of after) (here last) ∙ ap (λ from. left_open tracked from (moment_of last ∷ xs) (moments_of after)) same in
    turns.net
    ∙ (λ i. net_change (map interval_row (ends (moments_of zone) i ++ turns.old)) (map interval_row (ends (moments_of (entry ∷ recached zone rows)) i ++ turns.new)))
    ∙ sym (later_net tracked before zone after last entry rows place turns.old turns.new turns.rest at size
    (ap (λ from. ends_in tracked from (moments_of after) []) (sym (goes (moments_of zone))) ∙ turns.first)
    (ap (λ from. ends_in tracked from (moments_of after) []) (sym (goes (moments_of (entry ∷ recached zone rows)))) ∙ turns.second))

-- ---- as the code has it

pub goes_on_any : (tracked : List ℕ) (xs : List Moment) (entries : List Entry) (next : Option Entry) → next ≡ slice_get entries 0
    → goes_through tracked xs (moments_of (option_to_list next)) ≡ goes_through tracked xs (moments_of entries)
goes_on_any tracked xs [] next e = ap (λ n. goes_through tracked xs (moments_of (option_to_list n))) e
goes_on_any tracked xs (x ∷ rest) next e = ap (λ n. goes_through tracked xs (moments_of (option_to_list n))) e ∙ heads xs
  where
    one : (columns : Option Row) → moment_goes_on tracked columns (moment_of x ∷ []) ≡ moment_goes_on tracked columns (moments_of (x ∷ rest))
    one None = refl
    one (Some columns) = refl

    two : (columns : Option Row) (y : Moment) (ys zs : List Moment) → moment_goes_on tracked columns (y ∷ ys) ≡ moment_goes_on tracked columns (y ∷ zs)
    two None y ys zs = refl
    two (Some columns) y ys zs = refl

    heads : (ms : List Moment) → goes_through tracked ms (moment_of x ∷ []) ≡ goes_through tracked ms (moments_of (x ∷ rest))
    heads [] = refl
    heads (m ∷ []) = ap (λ t. t && true) (one m.columns)
    heads (m ∷ (n ∷ ms)) = λ i. two m.columns n (ms ++ moment_of x ∷ []) (ms ++ moments_of (x ∷ rest)) i && heads (n ∷ ms) i

pub first_code : (tracked : List ℕ) (entries old new : List Entry) (entry : Entry) (rows : List Row) (end : ℕ) (change : Change) → end ≡ length rows
    → old ++ drop end entries ≡ drop 0 entries → length old + 0 ≡ end → new ≡ take 0 old ++ entry ∷ recached (drop 0 old) rows
    → Turns tracked None (moments_of old) (moments_of new) (moments_of (drop end entries)) change
    → change ≡ net_change (rows_of tracked entries) (rows_of tracked (spliced entries 0 entry rows))
first_code tracked entries old new entry rows end change size whole long is turns =
    first_change tracked old (drop end entries) entry rows change (omega arith) (subst (λ zs. Turns tracked None (moments_of old) (moments_of zs) (moments_of (drop end entries)) change) is turns)
    ∙ (λ i. net_change (rows_of tracked (whole i)) (rows_of tracked (spliced (whole i) 0 entry rows)))

whole_is : (entries old : List Entry) (k : ℕ) (end : ℕ) → old ++ drop end entries ≡ drop k entries → take k entries ++ (old ++ drop end entries) ≡ entries
whole_is entries old k end e = ap (λ more. take k entries ++ more) e ∙ take-append-drop k entries

pub later_code : (tracked : List ℕ) (entries old new : List Entry) (entry : Entry) (rows : List Row) (place less end : ℕ) (since : Option Row) (change : Change) → less + 1 ≡ place → place + length rows ≡ end → end ≤ length entries
    → old ++ drop end entries ≡ drop less entries → length old + less ≡ end → new ≡ take 1 old ++ entry ∷ recached (drop 1 old) rows
    → BeginsAs tracked entries less since → Turns tracked since (moments_of old) (moments_of new) (moments_of (drop end entries)) change
    → change ≡ net_change (rows_of tracked entries) (rows_of tracked (spliced entries place entry rows))
later_code tracked entries [] new entry rows place less end since change at size within whole long is begins turns = absurd (let none : ⊥ = omega arith in none)
later_code tracked entries (last ∷ zone) new entry rows place less end since change at size within whole long is begins turns =
    let all : take less entries ++ ((last ∷ zone) ++ drop end entries) ≡ entries = whole_is entries (last ∷ zone) less end whole in
    let front : length (take less entries) ≡ less = length-take-le less entries (omega arith) in
    let begun : BeginsAs tracked (take less entries ++ ((last ∷ zone) ++ drop end entries)) (length (take less entries)) since = (subst (λ zs. BeginsAs tracked zs (length (take less entries)) since) (sym all) (subst (λ k. BeginsAs tracked entries k since) (sym front) begins)) in
    later_change tracked (take less entries) zone (drop end entries) last entry rows place since change (omega arith) (omega arith) begun
    (subst (λ zs. Turns tracked since (moments_of (last ∷ zone)) (moments_of zs) (moments_of (drop end entries)) change) is turns)
    ∙ (λ i. net_change (rows_of tracked (all i)) (rows_of tracked (spliced (all i) place entry rows)))

quiet_or : (a b : Bool) → (a || b) ≡ true → (a ≡ true) ⊎ (b ≡ true)
quiet_or true b e = inl refl
quiet_or false b e = inr e

leaves : (tracked : List ℕ) (last entry : Entry) (zone after : List Entry) (rows : List Row) (next : Option Entry) → length zone ≡ length rows → next ≡ slice_get after 0
    → (is_quiet (last ∷ zone) (last ∷ (entry ∷ recached zone rows)) ≡ true) ⊎ ((goes_through tracked (moments_of (last ∷ zone)) (moments_of (option_to_list next)) && goes_through tracked (moments_of (last ∷ (entry ∷ recached zone rows))) (moments_of (option_to_list next))) ≡ true)
    → (since : Option Row) → (ends_in tracked since (moments_of (last ∷ zone)) (moments_of after) ≡ ends_in tracked since (moments_of (last ∷ (entry ∷ recached zone rows))) (moments_of after))
    × (left_open tracked since (moments_of (last ∷ zone)) (moments_of after) ≡ left_open tracked since (moments_of (last ∷ (entry ∷ recached zone rows))) (moments_of after))
leaves tracked last entry [] after [] next size at (inl quiet) since = quiet_same tracked after last entry (sym (same_columns-is (columns_after last) (columns_after entry) quiet)) since
leaves tracked last entry [] after (row ∷ rows) next size at (inl quiet) since = absurd (let none : ⊥ = omega arith in none)
leaves tracked last entry (z ∷ zs) after rows next size at (inl quiet) since = absurd (let none : ⊥ = cc in none)
leaves tracked last entry zone after rows next size at (inr through) since =
    let both = and-true (goes_through tracked (moments_of (last ∷ zone)) (moments_of (option_to_list next))) (goes_through tracked (moments_of (last ∷ (entry ∷ recached zone rows))) (moments_of (option_to_list next))) through in
    through_same tracked after zone (entry ∷ recached zone rows) last (sym (goes_on_any tracked (moments_of (last ∷ zone)) after next at) ∙ both.0)
    (sym (goes_on_any tracked (moments_of (last ∷ (entry ∷ recached zone rows))) after next at) ∙ both.1) since

pub leaves_code : (tracked : List ℕ) (entries old new : List Entry) (entry : Entry) (rows : List Row) (next : Option Entry) (place less end : ℕ) → less + 1 ≡ place → place + length rows ≡ end → end ≤ length entries
    → old ++ drop end entries ≡ drop less entries → length old + less ≡ end → new ≡ take 1 old ++ entry ∷ recached (drop 1 old) rows → next ≡ slice_get entries end
    → leaves_rows tracked old new (option_to_list next) ≡ true
    → record { removed = []; added = [] } ≡ net_change (rows_of tracked entries) (rows_of tracked (spliced entries place entry rows))
leaves_code tracked entries [] new entry rows next place less end at size within whole long is there so = absurd (let none : ⊥ = omega arith in none)
leaves_code tracked entries (last ∷ zone) new entry rows next place less end at size within whole long is there so =
    let all : take less entries ++ ((last ∷ zone) ++ drop end entries) ≡ entries = whole_is entries (last ∷ zone) less end whole in
    let front : length (take less entries) ≡ less = length-take-le less entries (omega arith) in
    later_same tracked (take less entries) zone (drop end entries) last entry rows place (omega arith) (omega arith)
    (leaves tracked last entry zone (drop end entries) rows next (omega arith) (there ∙ head_of entries end)
    (quiet_or (is_quiet (last ∷ zone) (last ∷ (entry ∷ recached zone rows))) (goes_through tracked (moments_of (last ∷ zone)) (moments_of (option_to_list next)) && goes_through tracked (moments_of (last ∷ (entry ∷ recached zone rows))) (moments_of (option_to_list next)))
    (subst (λ zs. leaves_rows tracked (last ∷ zone) zs (option_to_list next) ≡ true) is so)))
    ∙ (λ i. net_change (rows_of tracked (all i)) (rows_of tracked (spliced (all i) place entry rows)))

pub looks_from : (tracked : List ℕ) (entries : List Entry) (place : ℕ) (last : Entry) (start one two three before : ℕ) → last ≡ slice_index_or entries place last → (columns_after last ≡ None → ⊥) → IsRunFrom tracked entries start place
    → one ≡ before + 1 → two + start ≤ one + place + 2 → three ≡ two + 1 → LooksFrom tracked entries place three before
looks_from tracked entries place last start one two three before at some run first second third =
    record { last = last; at = at; columns = unwrap_or (columns_after last) []; has = there (columns_after last) some; start = start; run = run; looks = omega arith }
  where
    there : (columns : Option Row) → (columns ≡ None → ⊥) → columns ≡ Some (unwrap_or columns [])
    there None h = absurd (h refl)
    there (Some row) h = refl

pub back_more : (tracked : List ℕ) (entries : List Entry) (place taken less more : ℕ) → less ≤ more → LooksBack tracked entries place taken less → LooksBack tracked entries place taken more
back_more tracked entries place taken less more up (inl few) = inl (omega arith)
back_more tracked entries place taken less more up (inr from) =
    let spent : taken + from.start ≤ less + place + 4 = from.looks in
    inr (record { last = from.last; at = from.at; columns = from.columns; has = from.has; start = from.start; run = from.run; looks = omega arith })

pub behind_more : (tracked : List ℕ) (entries : List Entry) (place : ℕ) (was is mine also : Option Row) (few taken less more : ℕ) → was ≡ mine → is ≡ also → less ≤ more
    → LooksBehind tracked entries place was is few taken less → LooksBehind tracked entries place mine also few taken more
behind_more tracked entries place was is mine also few taken less more w i up (inl small) = inl (omega arith)
behind_more tracked entries place was is mine also few taken less more w i up (inr on) =
    let spent : taken + place ≤ less + on.end + 4 + few = on.looks in
    inr (record {
      first = on.first;
      there = on.there;
      columns = on.columns;
      has = on.has;
      apart = λ e. on.apart (ap (λ s. unwrap_or s on.first.event.sequence) w ∙ e ∙ ap (λ s. unwrap_or s on.first.event.sequence) (sym i));
      end = on.end;
      run = on.run;
      looks = omega arith;
    })
