-- Each event that a splice touches stands in a run whose row goes or comes, or its columns change.
use Rattle.std.proofs.Common.{◌≡◌, ◌≢◌, ◌⊎◌, inl, inr, ℕ, zero, suc, ◌≤◌, Bool, true, false, cond, ◌&&◌, if◌then◌else◌, List, [], ◌∷◌, ◌++◌, length, take, drop, map, Option, Some, None, refl, sym, ap, ◌∙◌, subst, arith}
use Rattle.std.specs.Prelude.{not, ◌||◌, unwrap_or}
use Rattle.std.specs.List.{list_any, remove}
use Rattle.std.specs.declared.cmp.Ordering.{Ordering}
use Rattle.std.specs.declared.cmp.Ordering.TheVariants.{Less, Equal, Greater}
use Rattle.std.specs.Ordering.{is_gt, nat_cmp, ordering_then}
use Rattle.std.proofs.lemmas.List.{length-append}
use Rattle.std.proofs.Math.Seq.{drop-append_seam, take-append_seam}
use Rattle.value_core.specs.declared.event.Event.{Event}
use Rattle.value_core.specs.declared.value.Value.TheVariants.{Null}
use Rattle.value_core.specs.Bags.{count_of, in_row_order, net_change, surplus}
use Rattle.value_core.specs.EventOrder.{history_order, is_upsert, kind_rank, placed_by}
use Rattle.value_core.specs.Order.{Row, row_order, same_row}
use Rattle.value_core.specs.OrderLaws.{row_order_total, rows_apart}
use Rattle.value_core.proofs.BagLemmas.{count-cons, count-in_row_order, one}
use Rattle.value_core.proofs.ChangeLemmas.{count-surplus}
use Rattle.event_history.proofs.Finds.{greater}
use Rattle.flow_model.specs.Current.{after_event, merged, overlaid}
use Rattle.flow_model.specs.History.{Moment, Interval, goes_on, interval_row, key_rows, moments_after, next_sequence}
use Rattle.cdc_runs.specs.Runs.{ended, ended_by, opened, opened_by, same_columns}
use Rattle.cdc_runs.proofs.RunLemmas.{runs_are}
use Rattle.cdc_runs.proofs.StandLemmas.{same_row-is, same_row-itself}
use Rattle.cdc_scd2.specs.Looks.{Seen, differing, place_of, same_interval, same_seen, seen, touched}
use Rattle.cdc_laws.specs.Moved.{AllLater, AreRising, HasShape, HaveShape, IsNew, has_row, is_moved, moved, moved_in}
use Rattle.cdc_laws.proofs.SpanLemmas.{AllKnown, AllUp, AreUp, Member, Spans, ends, ends_are, knows, member_either, sequences, stands, stands_are}

-- ---- how often a row is held

off_one : (test : Bool) → (test ≡ true → ⊥) → ◌≡◌ {A = ℕ} (cond test 1 0) 0
off_one true h = absurd (h refl)
off_one false h = refl

on_one : (test : Bool) → test ≡ true → ◌≡◌ {A = ℕ} (cond test 1 0) 1
on_one true e = refl
on_one false e = cc

none_counted : (row : Row) (theirs : List Interval) → ((interval : Interval) → Member interval theirs → same_row row (interval_row interval) ≡ true → ⊥) → count_of row (map interval_row theirs) ≡ 0
none_counted row [] none = refl
none_counted row (x ∷ xs) none =
    let here : one row (interval_row x) ≡ 0 = off_one (same_row row (interval_row x)) (none x (inl refl)) in
    omega (arith, count-cons row (interval_row x) (map interval_row xs), here, none_counted row xs (λ interval m. none interval (inr m)))

some_counted : (interval : Interval) (mine : List Interval) → Member interval mine → 1 ≤ count_of (interval_row interval) (map interval_row mine)
some_counted interval [] m = absurd m
some_counted interval (x ∷ xs) (inl e) =
    let here : one (interval_row interval) (interval_row x) ≡ 1 = on_one (same_row (interval_row interval) (interval_row x))
    (ap (λ i. same_row (interval_row interval) (interval_row i)) (sym e) ∙ same_row-itself (interval_row interval)) in
    omega (arith, count-cons (interval_row interval) (interval_row x) (map interval_row xs), here)
some_counted interval (x ∷ xs) (inr m) =
    omega (arith, count-cons (interval_row interval) (interval_row x) (map interval_row xs), some_counted interval xs m)

false-true : false ≡ true → ⊥
false-true h = cc

any_by : (row x : Row) (xs : List Row) → 1 ≤ count_of row (x ∷ xs) → (1 ≤ count_of row xs → list_any (same_row row) xs ≡ true)
    → (test : Bool) → same_row row x ≡ test → (test || list_any (same_row row) xs) ≡ true
any_by row x xs held more true e = refl
any_by row x xs held more false e =
    let here : one row x ≡ 0 = off_one (same_row row x) (λ h. false-true (sym e ∙ h)) in more (omega (arith, held, here, count-cons row x xs))

any_counted : (row : Row) (rows : List Row) → 1 ≤ count_of row rows → list_any (same_row row) rows ≡ true
any_counted row [] held = absurd (let none : ⊥ = (let zero_held : count_of row [] ≡ 0 = refl in omega (arith, held, zero_held)) in none)
any_counted row (x ∷ xs) held = any_by row x xs held (any_counted row xs) (same_row row x) refl

-- a row that the one side has and the other hasn't is left
gone : (mine theirs : List Interval) (interval : Interval) → Member interval mine → ((other : Interval) → Member other theirs → same_row (interval_row interval) (interval_row other) ≡ true → ⊥)
    → list_any (same_row (interval_row interval)) (in_row_order (surplus (map interval_row mine) (map interval_row theirs))) ≡ true
gone mine theirs interval m none = any_counted (interval_row interval) (in_row_order (surplus (map interval_row mine) (map interval_row theirs)))
    (omega (
      arith,
      count-in_row_order (interval_row interval) (surplus (map interval_row mine) (map interval_row theirs)),
      count-surplus (interval_row interval) (map interval_row mine) (map interval_row theirs),
      some_counted interval mine m,
      none_counted (interval_row interval) theirs none,
    ))

-- ---- intervals of one shape are one where their rows are

abbrev IsEnd : Option Row → Type 0
IsEnd None = Unit {0}
IsEnd (Some end) = end ≢ Null ∷ []

record IsShaped (wide long : ℕ) (interval : Interval) : Type 0 where
  columns : length interval.columns ≡ wide
  start : length interval.start ≡ long
  end : IsEnd interval.end

append_parts : (xs ys others more : Row) → length xs ≡ length others → xs ++ ys ≡ others ++ more → (xs ≡ others) × (ys ≡ more)
append_parts xs ys others more n e = (
  sym (take-append_seam xs ys) ∙ (λ i. take (n i) (e i)) ∙ take-append_seam others more,
  sym (drop-append_seam xs ys) ∙ (λ i. drop (n i) (e i)) ∙ drop-append_seam others more,
)

end_inside : (a b : Option Row) → IsEnd a → IsEnd b → unwrap_or a (Null ∷ []) ≡ unwrap_or b (Null ∷ []) → a ≡ b
end_inside None None x y e = refl
end_inside None (Some end) x y e = absurd (y (sym e))
end_inside (Some end) None x y e = absurd (x e)
end_inside (Some end) (Some other) x y e = ap Some e

rows_tell : (wide long : ℕ) (a b : Interval) → IsShaped wide long a → IsShaped wide long b → interval_row a ≡ interval_row b → a ≡ b
rows_tell wide long a b x y e =
    let front : length (a.columns ++ a.start) ≡ length (b.columns ++ b.start) = omega (arith, length-append a.columns a.start, length-append b.columns b.start, x.columns, y.columns, x.start, y.start) in
    let outer : (a.columns ++ a.start ≡ b.columns ++ b.start) × (unwrap_or a.end (Null ∷ []) ≡ unwrap_or b.end (Null ∷ [])) =
    append_parts (a.columns ++ a.start) (unwrap_or a.end (Null ∷ [])) (b.columns ++ b.start) (unwrap_or b.end (Null ∷ [])) front e in
    let inner : (a.columns ≡ b.columns) × (a.start ≡ b.start) = append_parts a.columns a.start b.columns b.start (x.columns ∙ sym y.columns) outer.0 in
    let last : a.end ≡ b.end = end_inside a.end b.end x.end y.end outer.1 in
    λ i. record { columns = inner.0 i; start = inner.1 i; end = last i }

-- ---- moments of one shape have such intervals

abbrev HasWidth : ℕ → Option Row → Type 0
HasWidth wide None = Unit {0}
HasWidth wide (Some columns) = length columns ≡ wide

record MomentShape (wide long : ℕ) (moment : Moment) : Type 0 where
  width : HasWidth wide moment.columns
  size : length moment.sequence ≡ long
  known : moment.sequence ≢ Null ∷ []

abbrev MomentsShaped : ℕ → ℕ → List Moment → Type 0
MomentsShaped wide long [] = Unit {0}
MomentsShaped wide long (moment ∷ moments) = MomentShape wide long moment × MomentsShaped wide long moments

abbrev AllShaped : ℕ → ℕ → List Interval → Type 0
AllShaped wide long xs = (interval : Interval) → Member interval xs → IsShaped wide long interval

start_long : (long : ℕ) (since : Option Row) (at : Row) → HasWidth long since → length at ≡ long → length (unwrap_or since at) ≡ long
start_long long None at s e = e
start_long long (Some start) at s e = s

opened_long : (tracked : List ℕ) (long : ℕ) (since : Option Row) (at : Row) (later : List Moment) (columns : Option Row) → HasWidth long since → length at ≡ long → HasWidth long (opened_by tracked since at later columns)
opened_long tracked long since at later None s e = tt
opened_long tracked long since at later (Some columns) s e = by (goes_on tracked columns later)
  where
    by : (test : Bool) → HasWidth long (if test then Some (unwrap_or since at) else None)
    by true = start_long long since at s e
    by false = tt

next_end : (wide long : ℕ) (later : List Moment) → MomentsShaped wide long later → IsEnd (next_sequence later)
next_end wide long [] shaped = tt
next_end wide long (moment ∷ moments) shaped = shaped.0.known

ended_shaped : (tracked : List ℕ) (wide long : ℕ) (since : Option Row) (at : Row) (later : List Moment) (columns : Option Row) → HasWidth long since → length at ≡ long → MomentsShaped wide long later → HasWidth wide columns
    → AllShaped wide long (ended_by tracked since at later columns)
ended_shaped tracked wide long since at later None s e shaped width interval m = absurd m
ended_shaped tracked wide long since at later (Some columns) s e shaped width interval m = by (goes_on tracked columns later) m
  where
    by : (test : Bool) → Member interval (if test then [] else record { columns = columns; start = unwrap_or since at; end = next_sequence later } ∷ []) → IsShaped wide long interval
    by true h = absurd h
    by false (inl h) = subst (IsShaped wide long) (sym h) (record { columns = width; start = start_long long since at s e; end = next_end wide long later shaped })
    by false (inr h) = absurd h

ends_shaped : (tracked : List ℕ) (wide long : ℕ) (since : Option Row) (moments : List Moment) → HasWidth long since → MomentsShaped wide long moments → AllShaped wide long (ends tracked since moments)
ends_shaped tracked wide long since [] s shaped interval m = absurd m
ends_shaped tracked wide long since (moment ∷ later) s shaped interval m =
    by (member_either interval (ended tracked since moment later) (ends tracked (opened tracked since moment later) later) m)
    (ends_shaped tracked wide long (opened tracked since moment later) later (opened_long tracked long since moment.sequence later moment.columns s shaped.0.size) shaped.1 interval)
  where
    by : Member interval (ended tracked since moment later) ⊎ Member interval (ends tracked (opened tracked since moment later) later)
        → (Member interval (ends tracked (opened tracked since moment later) later) → IsShaped wide long interval) → IsShaped wide long interval
    by (inl h) more = ended_shaped tracked wide long since moment.sequence later moment.columns s shaped.0.size shaped.1 shaped.0.width interval h
    by (inr h) more = more h

-- ---- an event that is seen to differ is moved

same_columns-itself : (a : Option Row) → same_columns a a ≡ true
same_columns-itself None = refl
same_columns-itself (Some row) = same_row-itself row

same_interval-itself : (a : Option Interval) → same_interval a a ≡ true
same_interval-itself None = refl
same_interval-itself (Some a) = λ i. (same_row-itself a.columns i && same_row-itself a.start i) && same_columns-itself a.end i

one_interval : (a b : Option Interval) → a ≡ b → same_interval a b ≡ false → ⊥
one_interval a b e differ = false-true (sym differ ∙ ap (same_interval a) (sym e) ∙ same_interval-itself a)

-- what stands on the one side in an interval that the other side doesn't stand in
lost : (wide long : ℕ) (mine theirs : List Interval) (sequence : Row) (interval : Interval) (y : Option Interval) → AllShaped wide long mine → AllShaped wide long theirs
    → Spans interval sequence × Member interval mine → ((other : Interval) → Member other theirs → Spans other sequence → y ≡ Some other) → (Some interval ≡ y → ⊥)
    → list_any (same_row (interval_row interval)) (in_row_order (surplus (map interval_row mine) (map interval_row theirs))) ≡ true
lost wide long mine theirs sequence interval y shaped also inside only differ = gone mine theirs interval inside.1 none
  where
    none : (other : Interval) → Member other theirs → same_row (interval_row interval) (interval_row other) ≡ true → ⊥
    none other m e =
        let same : interval ≡ other = rows_tell wide long interval other (shaped interval inside.1) (also other m) (same_row-is (interval_row interval) (interval_row other) e) in
        differ (ap Some same ∙ sym (only other m (subst (λ i. Spans i sequence) same inside.0)))

intervals_moved : (wide long : ℕ) (mine theirs : List Interval) (sequence : Row) (x y : Option Interval) → AllShaped wide long mine → AllShaped wide long theirs
    → ((interval : Interval) → x ≡ Some interval → Spans interval sequence × Member interval mine) → ((interval : Interval) → Member interval mine → Spans interval sequence → x ≡ Some interval)
    → ((interval : Interval) → y ≡ Some interval → Spans interval sequence × Member interval theirs) → ((interval : Interval) → Member interval theirs → Spans interval sequence → y ≡ Some interval)
    → same_interval x y ≡ false
    → (has_row (in_row_order (surplus (map interval_row mine) (map interval_row theirs))) x || has_row (in_row_order (surplus (map interval_row theirs) (map interval_row mine))) y) ≡ true
intervals_moved wide long mine theirs sequence (Some interval) y shaped also in_x only_x in_y only_y differ =
    ap (λ test. test || has_row (in_row_order (surplus (map interval_row theirs) (map interval_row mine))) y)
    (lost wide long mine theirs sequence interval y shaped also (in_x interval refl) only_y (λ e. one_interval (Some interval) y e differ))
intervals_moved wide long mine theirs sequence None (Some interval) shaped also in_x only_x in_y only_y differ =
    lost wide long theirs mine sequence interval None also shaped (in_y interval refl) only_x (λ e. one_interval None (Some interval) (sym e) differ)
intervals_moved wide long mine theirs sequence None None shaped also in_x only_x in_y only_y differ = absurd (one_interval None None refl differ)

moved_by : (columns rows interval : Bool) → (interval ≡ false → rows ≡ true) → (columns && interval) ≡ false → (not columns || rows) ≡ true
moved_by true rows interval f h = f h
moved_by false rows interval f h = refl

one_moved : (same is : Bool) → (same ≡ false → is ≡ true) → (if same then 0 else 1) ≤ (if is then 1 else 0)
one_moved true true h = omega arith
one_moved true false h = omega arith
one_moved false true h = omega arith
one_moved false false h = absurd (false-true (h refl))

differing_moved : (wide long : ℕ) (mine theirs : List Interval) → AllShaped wide long mine → AllShaped wide long theirs → (ss : List Row) (xs ys : List Seen) → AllKnown mine ss xs → AllKnown theirs ss ys
    → differing xs ys ≤ moved_in (net_change (map interval_row mine) (map interval_row theirs)) xs ys
differing_moved wide long mine theirs shaped also [] [] [] known knows = omega arith
differing_moved wide long mine theirs shaped also [] (x ∷ xs) ys known knows = absurd known
differing_moved wide long mine theirs shaped also [] [] (y ∷ ys) known knows = absurd knows
differing_moved wide long mine theirs shaped also (s ∷ ss) [] ys known knows = absurd known
differing_moved wide long mine theirs shaped also (s ∷ ss) (x ∷ xs) [] known knows = absurd knows
differing_moved wide long mine theirs shaped also (s ∷ ss) (x ∷ xs) (y ∷ ys) known knows =
    omega (
      arith,
      one_moved (same_seen x y) (is_moved (net_change (map interval_row mine) (map interval_row theirs)) x y)
          (moved_by (same_columns x.columns y.columns) (has_row (in_row_order (surplus (map interval_row mine) (map interval_row theirs))) x.interval || has_row (in_row_order (surplus (map interval_row theirs) (map interval_row mine))) y.interval)
          (same_interval x.interval y.interval)
          (intervals_moved wide long mine theirs s x.interval y.interval shaped also known.0.inside known.0.only knows.0.inside knows.0.only)),
      differing_moved wide long mine theirs shaped also ss xs ys known.1 knows.1,
    )

known_removed : (all : List Interval) (ss : List Row) (xs : List Seen) (place : ℕ) → AllKnown all ss xs → AllKnown all (remove ss place) (remove xs place)
known_removed all [] [] zero known = tt
known_removed all [] [] (suc place) known = tt
known_removed all [] (x ∷ xs) place known = absurd known
known_removed all (s ∷ ss) [] place known = absurd known
known_removed all (s ∷ ss) (x ∷ xs) zero known = known.1
known_removed all (s ∷ ss) (x ∷ xs) (suc place) known = (known.0, known_removed all ss xs place known.1)

-- ---- the moments of events

event_sequences : (ignore_null : Bool) (before : Option Row) (events : List Event) → sequences (moments_after ignore_null before events) ≡ map (λ event. event.sequence) events
event_sequences ignore_null before [] = refl
event_sequences ignore_null before (event ∷ events) = ap (λ more. event.sequence ∷ more) (event_sequences ignore_null (after_event ignore_null before event) events)

moments_later : (ignore_null : Bool) (sequence : Row) (before : Option Row) (events : List Event) → AllLater sequence events → AllUp sequence (moments_after ignore_null before events)
moments_later ignore_null sequence before [] all = tt
moments_later ignore_null sequence before (event ∷ events) all = (all.0, moments_later ignore_null sequence (after_event ignore_null before event) events all.1)

moments_up : (ignore_null : Bool) (before : Option Row) (events : List Event) → AreRising events → AreUp (moments_after ignore_null before events)
moments_up ignore_null before [] rising = tt
moments_up ignore_null before (event ∷ events) rising =
    (moments_later ignore_null event.sequence (after_event ignore_null before event) events rising.0, moments_up ignore_null (after_event ignore_null before event) events rising.1)

overlaid_long : (olds news : Row) → length olds ≡ length news → length (overlaid olds news) ≡ length news
overlaid_long [] news e = refl
overlaid_long (old ∷ olds) [] e = refl
overlaid_long (old ∷ olds) (new ∷ news) e = ap suc (overlaid_long olds news (omega arith))

merged_wide : (wide : ℕ) (ignore_null : Bool) (before : Option Row) (columns : Row) → HasWidth wide before → length columns ≡ wide → length (if ignore_null then merged before columns else columns) ≡ wide
merged_wide wide false before columns w e = e
merged_wide wide true None columns w e = e
merged_wide wide true (Some before) columns w e = overlaid_long before columns (w ∙ sym e) ∙ e

after_wide : (wide : ℕ) (ignore_null : Bool) (before : Option Row) (event : Event) → HasWidth wide before → (is_upsert event ≡ true → length event.columns ≡ wide) → (upsert : Bool) → is_upsert event ≡ upsert
    → HasWidth wide (if upsert then Some (if ignore_null then merged before event.columns else event.columns) else None)
after_wide wide ignore_null before event w fits true e = merged_wide wide ignore_null before event.columns w (fits e)
after_wide wide ignore_null before event w fits false e = tt

moments_shaped : (wide long : ℕ) (ignore_null : Bool) (before : Option Row) (events : List Event) → HasWidth wide before → HaveShape wide long events → MomentsShaped wide long (moments_after ignore_null before events)
moments_shaped wide long ignore_null before [] w shape = tt
moments_shaped wide long ignore_null before (event ∷ events) w shape =
    let after : HasWidth wide (after_event ignore_null before event) = after_wide wide ignore_null before event w shape.0.columns (is_upsert event) refl in
    (record { width = after; size = shape.0.sequence; known = shape.0.known }, moments_shaped wide long ignore_null (after_event ignore_null before event) events after shape.1)

-- ---- the events with one more

placed_less : (event x : Event) (xs : List Event) → row_order event.sequence x.sequence ≡ Less → placed_by history_order event (x ∷ xs) ≡ event ∷ x ∷ xs
placed_less event x xs e = ap (λ o. if is_gt (ordering_then o (nat_cmp (kind_rank event.kind) (kind_rank x.kind))) then x ∷ placed_by history_order event xs else event ∷ x ∷ xs) e

placed_greater : (event x : Event) (xs : List Event) → row_order event.sequence x.sequence ≡ Greater → placed_by history_order event (x ∷ xs) ≡ x ∷ placed_by history_order event xs
placed_greater event x xs e = ap (λ o. if is_gt (ordering_then o (nat_cmp (kind_rank event.kind) (kind_rank x.kind))) then x ∷ placed_by history_order event xs else event ∷ x ∷ xs) e

place_less : (event x : Event) (xs : List Event) → row_order event.sequence x.sequence ≡ Less → place_of event (x ∷ xs) ≡ 0
place_less event x xs e = ap (λ o. if is_gt o then suc (place_of event xs) else 0) e

place_greater : (event x : Event) (xs : List Event) → row_order event.sequence x.sequence ≡ Greater → place_of event (x ∷ xs) ≡ suc (place_of event xs)
place_greater event x xs e = ap (λ o. if is_gt o then suc (place_of event xs) else 0) e

later_trans : (a b : Row) (events : List Event) → row_order a b ≡ Less → AllLater b events → AllLater a events
later_trans a b [] e all = tt
later_trans a b (x ∷ xs) e all = (row_order_total.trans a b x.sequence e all.0, later_trans a b xs e all.1)

abbrev event_list : List Event → List Row
event_list events = map (λ event. event.sequence) events

record Placed (wide long : ℕ) (event : Event) (events : List Event) : Type 0 where
  rising : AreRising (placed_by history_order event events)
  back : remove (event_list (placed_by history_order event events)) (place_of event events) ≡ event_list events
  later : (sequence : Row) → row_order sequence event.sequence ≡ Less → AllLater sequence events → AllLater sequence (placed_by history_order event events)
  shape : HaveShape wide long (placed_by history_order event events)

all_placed_by : (wide long : ℕ) (event x : Event) (xs : List Event) → AreRising (x ∷ xs) → IsNew event (x ∷ xs) → HasShape wide long event → HaveShape wide long (x ∷ xs) → Placed wide long event xs
    → (o : Ordering) → row_order event.sequence x.sequence ≡ o → Placed wide long event (x ∷ xs)
all_placed_by wide long event x xs rising new mine shape more Less e =
    let p : placed_by history_order event (x ∷ xs) ≡ event ∷ x ∷ xs = placed_less event x xs e in
    let q : place_of event (x ∷ xs) ≡ 0 = place_less event x xs e in
    record {
      rising = subst AreRising (sym p) ((e, later_trans event.sequence x.sequence xs e rising.0), rising);
      back = λ i. remove (event_list (p i)) (q i);
      later = λ sequence f all. subst (AllLater sequence) (sym p) (f, all);
      shape = subst (HaveShape wide long) (sym p) (mine, shape);
    }
all_placed_by wide long event x xs rising new mine shape more Equal e = absurd (new.0 (rows_apart event.sequence x.sequence e))
all_placed_by wide long event x xs rising new mine shape more Greater e =
    let p : placed_by history_order event (x ∷ xs) ≡ x ∷ placed_by history_order event xs = placed_greater event x xs e in
    let q : place_of event (x ∷ xs) ≡ suc (place_of event xs) = place_greater event x xs e in
    record {
      rising = subst AreRising (sym p) (more.later x.sequence (greater event.sequence x.sequence e) rising.0, more.rising);
      back = (λ i. remove (event_list (p i)) (q i)) ∙ ap (λ ss. x.sequence ∷ ss) more.back;
      later = λ sequence f all. subst (AllLater sequence) (sym p) (all.0, more.later sequence f all.1);
      shape = subst (HaveShape wide long) (sym p) (shape.0, more.shape);
    }

all_placed : (wide long : ℕ) (event : Event) (events : List Event) → AreRising events → IsNew event events → HasShape wide long event → HaveShape wide long events → Placed wide long event events
all_placed wide long event [] rising new mine shape = record { rising = (tt, tt); back = refl; later = λ sequence f all. (f, tt); shape = (mine, tt) }
all_placed wide long event (x ∷ xs) rising new mine shape =
    all_placed_by wide long event x xs rising new mine shape (all_placed wide long event xs rising.1 new.1 mine shape.1) (row_order event.sequence x.sequence) refl

rows_are : (ignore_null : Bool) (tracked : List ℕ) (events : List Event) → key_rows ignore_null tracked events ≡ map interval_row (ends tracked None (moments_after ignore_null None events))
rows_are ignore_null tracked events = ap (map interval_row) (runs_are tracked (moments_after ignore_null None events) ∙ ends_are tracked None (moments_after ignore_null None events))

pub touched_moved : (ignore_null : Bool) (tracked : List ℕ) (events : List Event) (event : Event) (wide long : ℕ) → AreRising events → IsNew event events → HaveShape wide long (event ∷ events)
    → touched ignore_null tracked events event ≤ moved ignore_null tracked events event
touched_moved ignore_null tracked events event wide long rising new shape =
    let also : List Event = placed_by history_order event events in
    let place : ℕ = place_of event events in
    let placed : Placed wide long event events = all_placed wide long event events rising new shape.0 shape.1 in
    let old : List Moment = moments_after ignore_null None events in
    let now : List Moment = moments_after ignore_null None also in
    let known : AllKnown (ends tracked None old) (event_list events) (stands tracked None old) =
    subst (λ ss. AllKnown (ends tracked None old) ss (stands tracked None old)) (event_sequences ignore_null None events) (knows tracked old (moments_up ignore_null None events rising) None tt) in
    let known_now : AllKnown (ends tracked None now) (event_list events) (remove (stands tracked None now) place) =
    subst (λ ss. AllKnown (ends tracked None now) ss (remove (stands tracked None now) place)) (ap (λ ss. remove ss place) (event_sequences ignore_null None also) ∙ placed.back)
    (known_removed (ends tracked None now) (sequences now) (stands tracked None now) place (knows tracked now (moments_up ignore_null None also placed.rising) None tt)) in
    let least : differing (stands tracked None old) (remove (stands tracked None now) place)
    ≤ moved_in (net_change (map interval_row (ends tracked None old)) (map interval_row (ends tracked None now))) (stands tracked None old) (remove (stands tracked None now) place) =
    differing_moved wide long (ends tracked None old) (ends tracked None now)
    (ends_shaped tracked wide long None old tt (moments_shaped wide long ignore_null None events tt shape.1)) (ends_shaped tracked wide long None now tt (moments_shaped wide long ignore_null None also tt placed.shape))
    (event_list events) (stands tracked None old) (remove (stands tracked None now) place) known known_now in
    subst (λ xs. differing xs (remove (seen ignore_null tracked also) place) ≤ moved_in (net_change (key_rows ignore_null tracked events) (key_rows ignore_null tracked also)) xs (remove (seen ignore_null tracked also) place)) (sym (stands_are tracked None old))
    (subst (λ ys. differing (stands tracked None old) (remove ys place) ≤ moved_in (net_change (key_rows ignore_null tracked events) (key_rows ignore_null tracked also)) (stands tracked None old) (remove ys place)) (sym (stands_are tracked None now))
    (subst (λ rows. differing (stands tracked None old) (remove (stands tracked None now) place) ≤ moved_in (net_change rows (key_rows ignore_null tracked also)) (stands tracked None old) (remove (stands tracked None now) place)) (sym (rows_are ignore_null tracked events))
    (subst (λ rows. differing (stands tracked None old) (remove (stands tracked None now) place) ≤ moved_in (net_change (map interval_row (ends tracked None old)) rows) (stands tracked None old) (remove (stands tracked None now) place)) (sym (rows_are ignore_null tracked also)) least)))
