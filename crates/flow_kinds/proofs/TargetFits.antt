-- The rows of a table of a change feed fit its columns.
use Rattle.std.proofs.Common.{◌≡◌, ℕ, suc, arith, not, List, [], ◌∷◌, ◌++◌, length, Bool, true, false, ◌&&◌, ◌||◌, if◌then◌else◌, Option, Some, None, refl, subst, filter, fold, filter_map, flat_map, unwrap_or}
use Rattle.std.specs.Prelude.{IsTrue, ◌==◌}
use Rattle.std.specs.List.{list_all, list_any}
use Rattle.std.proofs.lemmas.Bool.{and_from, and_parts}
use Rattle.value_core.specs.declared.event.Event.{Event}
use Rattle.value_core.specs.declared.event.EventKind.{EventKind}
use Rattle.value_core.specs.declared.event.EventKind.TheVariants.{Upsert, Delete, Truncate}
use Rattle.value_core.specs.declared.value.Kind.{Kind}
use Rattle.value_core.specs.declared.value.Value.{Value}
use Rattle.value_core.specs.declared.value.Value.TheVariants.{Null}
use Rattle.value_core.specs.EventOrder.{history_order, is_truncate, is_upsert, kind_rank}
use Rattle.value_core.specs.Fits.{row_fits, value_fits}
use Rattle.value_core.specs.Order.{Row, is_null, same_row}
use Rattle.plan_core.specs.declared.flow.Cdc.{Cdc}
use Rattle.plan_core.specs.Sound.{target_kinds}
use Rattle.flow_model.specs.Current.{after_event, history, keys_of, merged, overlaid, scd1}
use Rattle.flow_model.specs.History.{Interval, Moment, begun_at, goes_on, interval_by, interval_row, intervals, key_rows, moments_after, next_sequence, scd2}
use Rattle.flow_model.specs.Target.{target_rows}
use Rattle.flow_kinds.specs.EventKinds.{all_events_of, all_fit, is_event_of, parts_fit}
use Rattle.flow_kinds.proofs.FitTools.{all_filtered, all_flat, all_in_order, all_mapped, all_picked, all_sorted, all_true, both_of, head_of, rows_join, tail_of}

-- ---- effective columns

module _ (columns : List Kind) where
  -- the columns, where there are any
  abbrev pub are_fit : Option Row → Bool
  are_fit None = true
  are_fit (Some row) = row_fits columns row

  pub overlaid_by : (k : Kind) (old new : Value) (b : Bool) → value_fits k old ≡ true → value_fits k new ≡ true → value_fits k (if b then old else new) ≡ true
  overlaid_by k old new true h j = h
  overlaid_by k old new false h j = j

overlaid_fits : (ks : List Kind) (old new : Row) → row_fits ks old ≡ true → row_fits ks new ≡ true → row_fits ks (overlaid old new) ≡ true
overlaid_fits [] [] [] h j = refl
overlaid_fits [] [] (n ∷ ns) h j = j
overlaid_fits [] (o ∷ os) new h j = cc
overlaid_fits (k ∷ ks) [] new h j = cc
overlaid_fits (k ∷ ks) (o ∷ os) [] h j = cc
overlaid_fits (k ∷ ks) (o ∷ os) (n ∷ ns) h j =
    let was = and_parts (value_fits k o) (row_fits ks os) h in
    let now = and_parts (value_fits k n) (row_fits ks ns) j in
    and_from (value_fits k (if is_null n then o else n)) (row_fits ks (overlaid os ns)) (overlaid_by (k ∷ ks) k o n (is_null n) was.0 now.0) (overlaid_fits ks os ns was.1 now.1)

module _ (columns : List Kind) (ignore : Bool) where
  -- an upsert has columns of these kinds
  abbrev pub upsert_fits : Event → Bool
  upsert_fits event = if is_upsert event then row_fits columns event.columns else true

  merged_fits : (before : Option Row) (row : Row) → are_fit columns before ≡ true → row_fits columns row ≡ true → row_fits columns (merged before row) ≡ true
  merged_fits None row h k = k
  merged_fits (Some old) row h k = overlaid_fits columns old row h k

  kept_by : (b : Bool) (before : Option Row) (row : Row) → are_fit columns before ≡ true → row_fits columns row ≡ true → row_fits columns (if b then merged before row else row) ≡ true
  kept_by true before row h k = merged_fits before row h k
  kept_by false before row h k = k

  after_by : (b : Bool) (before : Option Row) (row : Row) → are_fit columns before ≡ true → (if b then row_fits columns row else true) ≡ true
      → are_fit columns (if b then Some (if ignore then merged before row else row) else None) ≡ true
  after_by true before row h k = kept_by ignore before row h k
  after_by false before row h k = refl

  after_fits : (before : Option Row) (event : Event) → are_fit columns before ≡ true → upsert_fits event ≡ true → are_fit columns (after_event ignore before event) ≡ true
  after_fits before event h k = after_by (is_upsert event) before event.columns h k

  folded_fits : (events : List Event) (before : Option Row) → are_fit columns before ≡ true → list_all upsert_fits events ≡ true → are_fit columns (fold (after_event ignore) before events) ≡ true
  folded_fits [] before h all = h
  folded_fits (event ∷ events) before h all =
      folded_fits events (after_event ignore before event) (after_fits before event h (head_of upsert_fits event events all)) (tail_of upsert_fits event events all)

  pub scd1_fits : (events : List Event) → list_all upsert_fits events ≡ true → all_fit columns (scd1 ignore events) ≡ true
  scd1_fits events all =
      all_in_order (row_fits columns) (filter_map (λ key. fold (after_event ignore) None (history key events)) (keys_of events))
      (all_picked (row_fits columns) (λ key. true) (λ key. fold (after_event ignore) None (history key events))
      (λ key u row e. subst (λ o. are_fit columns o ≡ true) e
      (folded_fits (history key events) None refl (all_sorted upsert_fits history_order (filter (λ event. is_truncate event || same_row event.key key) events) (all_filtered upsert_fits (λ event. is_truncate event || same_row event.key key) events all)))) (keys_of events) (all_true (keys_of events)))

-- ---- intervals

module _ (sequences columns : List Kind) (ignore : Bool) (tracked : List ℕ) where
  -- an event has a sequence of these kinds, and an upsert columns of those
  abbrev pub moves : Event → Bool
  moves event = row_fits sequences event.sequence && upsert_fits columns ignore event

  abbrev pub moment_fits : Moment → Bool
  moment_fits moment = row_fits sequences moment.sequence && are_fit columns moment.columns

  abbrev pub end_fits : Option Row → Bool
  end_fits None = true
  end_fits (Some row) = row_fits sequences row

  abbrev pub interval_fits : Interval → Bool
  interval_fits interval = (row_fits columns interval.columns && row_fits sequences interval.start) && end_fits interval.end

  moments_fit : (events : List Event) (before : Option Row) → are_fit columns before ≡ true → list_all moves events ≡ true → list_all moment_fits (moments_after ignore before events) ≡ true
  moments_fit [] before h all = refl
  moments_fit (event ∷ events) before h all =
      let here = and_parts (row_fits sequences event.sequence) (upsert_fits columns ignore event) (head_of moves event events all) in
      let now : are_fit columns (after_event ignore before event) ≡ true = after_fits columns ignore before event h here.1 in
      both_of moment_fits (record { sequence = event.sequence; columns = after_event ignore before event }) (moments_after ignore (after_event ignore before event) events)
      (and_from (row_fits sequences event.sequence) (are_fit columns (after_event ignore before event)) here.0 now)
      (moments_fit events (after_event ignore before event) now (tail_of moves event events all))

  begun_fit : (start : Row) (behind : List Interval) → row_fits sequences start ≡ true → list_all interval_fits behind ≡ true → list_all interval_fits (begun_at start behind) ≡ true
  begun_fit start [] h all = refl
  begun_fit start (interval ∷ later) h all =
      let front = and_parts (row_fits columns interval.columns && row_fits sequences interval.start) (end_fits interval.end) (head_of interval_fits interval later all) in
      let both = and_parts (row_fits columns interval.columns) (row_fits sequences interval.start) front.0 in
      both_of interval_fits (record interval { start = start }) later
      (and_from (row_fits columns interval.columns && row_fits sequences start) (end_fits interval.end) (and_from (row_fits columns interval.columns) (row_fits sequences start) both.0 h) front.1)
      (tail_of interval_fits interval later all)

  next_fits : (later : List Moment) → list_all moment_fits later ≡ true → end_fits (next_sequence later) ≡ true
  next_fits [] all = refl
  next_fits (next ∷ later) all = (and_parts (row_fits sequences next.sequence) (are_fit columns next.columns) (head_of moment_fits next later all)).0

  run_by : (b : Bool) (start row : Row) (later : List Moment) (behind : List Interval) → row_fits sequences start ≡ true → row_fits columns row ≡ true → list_all moment_fits later ≡ true → list_all interval_fits behind ≡ true
      → list_all interval_fits (if b then begun_at start behind else record { columns = row; start = start; end = next_sequence later } ∷ behind) ≡ true
  run_by true start row later behind h k ms all = begun_fit start behind h all
  run_by false start row later behind h k ms all =
      both_of interval_fits (record { columns = row; start = start; end = next_sequence later }) behind
      (and_from (row_fits columns row && row_fits sequences start) (end_fits (next_sequence later)) (and_from (row_fits columns row) (row_fits sequences start) k h) (next_fits later ms)) all

  interval_by_fits : (start : Row) (later : List Moment) (behind : List Interval) (o : Option Row) → row_fits sequences start ≡ true → are_fit columns o ≡ true → list_all moment_fits later ≡ true → list_all interval_fits behind ≡ true
      → list_all interval_fits (interval_by tracked start later behind o) ≡ true
  interval_by_fits start later behind None h k ms all = all
  interval_by_fits start later behind (Some row) h k ms all = run_by (goes_on tracked row later) start row later behind h k ms all

  intervals_fit : (moments : List Moment) → list_all moment_fits moments ≡ true → list_all interval_fits (intervals tracked moments) ≡ true
  intervals_fit [] all = refl
  intervals_fit (moment ∷ later) all =
      let here = and_parts (row_fits sequences moment.sequence) (are_fit columns moment.columns) (head_of moment_fits moment later all) in
      interval_by_fits moment.sequence later (intervals tracked later) moment.columns here.0 here.1 (tail_of moment_fits moment later all) (intervals_fit later (tail_of moment_fits moment later all))

  -- ---- rows

  open_end : (ks : List Kind) → length ks ≡ 1 → row_fits ks (Null ∷ []) ≡ true
  open_end [] one = absurd (cc one)
  open_end (k ∷ []) one = refl
  open_end (k ∷ l ∷ ks) one = absurd (more (length ks) one)
    where
      more : (n : ℕ) → suc (suc n) ≡ 1 → ⊥
      more n e = omega (arith, e)

  ends_fit : (end : Option Row) → length sequences ≡ 1 → end_fits end ≡ true → row_fits sequences (unwrap_or end (Null ∷ [])) ≡ true
  ends_fit None one h = open_end sequences one
  ends_fit (Some row) one h = h

  row_fits_by : length sequences ≡ 1 → (interval : Interval) → interval_fits interval ≡ true → row_fits (columns ++ sequences ++ sequences) (interval_row interval) ≡ true
  row_fits_by one interval h =
      let front = and_parts (row_fits columns interval.columns && row_fits sequences interval.start) (end_fits interval.end) h in
      let both = and_parts (row_fits columns interval.columns) (row_fits sequences interval.start) front.0 in
      rows_join (columns ++ sequences) sequences (interval.columns ++ interval.start) (unwrap_or interval.end (Null ∷ []))
      (rows_join columns sequences interval.columns interval.start both.0 both.1) (ends_fit interval.end one front.1)

  key_rows_fit : length sequences ≡ 1 → (events : List Event) → list_all moves events ≡ true → all_fit (columns ++ sequences ++ sequences) (key_rows ignore tracked events) ≡ true
  key_rows_fit one events all =
      all_mapped (row_fits (columns ++ sequences ++ sequences)) interval_fits interval_row (row_fits_by one) (intervals tracked (moments_after ignore None events)) (intervals_fit (moments_after ignore None events) (moments_fit events None refl all))

  pub scd2_fits : length sequences ≡ 1 → (events : List Event) → list_all moves events ≡ true → all_fit (columns ++ sequences ++ sequences) (scd2 ignore tracked events) ≡ true
  scd2_fits one events all =
      all_in_order (row_fits (columns ++ sequences ++ sequences)) (flat_map (λ key. key_rows ignore tracked (history key events)) (keys_of events))
      (all_flat (row_fits (columns ++ sequences ++ sequences)) (λ key. key_rows ignore tracked (history key events))
      (λ key. key_rows_fit one (history key events) (all_sorted moves history_order (filter (λ event. is_truncate event || same_row event.key key) events) (all_filtered moves (λ event. is_truncate event || same_row event.key key) events all))) (keys_of events))

-- ---- events of their kinds

upsert_by : (keys columns : List Kind) (event : Event) (kind : EventKind) → parts_fit keys columns event kind ≡ true → (if kind_rank kind == 2 then row_fits columns event.columns else true) ≡ true
upsert_by keys columns event Upsert h = (and_parts (row_fits keys event.key) (row_fits columns event.columns) h).1
upsert_by keys columns event Delete h = refl
upsert_by keys columns event Truncate h = refl

module _ (sequences keys columns : List Kind) (ignore : Bool) where
  event_moves : (event : Event) → is_event_of sequences keys columns event ≡ true → moves sequences columns ignore [] event ≡ true
  event_moves event h =
      let front = and_parts (row_fits sequences event.sequence && not (list_any is_null event.sequence)) (parts_fit keys columns event event.kind) h in
      let both = and_parts (row_fits sequences event.sequence) (not (list_any is_null event.sequence)) front.0 in
      and_from (row_fits sequences event.sequence) (upsert_fits columns ignore event) both.0 (upsert_by keys columns event event.kind front.1)

  all_move : (events : List Event) → all_events_of sequences keys columns events ≡ true → list_all (moves sequences columns ignore []) events ≡ true
  all_move [] all = refl
  all_move (event ∷ events) all =
      both_of (moves sequences columns ignore []) event events (event_moves event (head_of (is_event_of sequences keys columns) event events all)) (all_move events (tail_of (is_event_of sequences keys columns) event events all))

  all_upserts : (events : List Event) → list_all (moves sequences columns ignore []) events ≡ true → list_all (upsert_fits columns ignore) events ≡ true
  all_upserts [] all = refl
  all_upserts (event ∷ events) all =
      both_of (upsert_fits columns ignore) event events (and_parts (row_fits sequences event.sequence) (upsert_fits columns ignore event) (head_of (moves sequences columns ignore []) event events all)).1
      (all_upserts events (tail_of (moves sequences columns ignore []) event events all))

target_by : (sequences columns : List Kind) (ignore : Bool) (tracked : List ℕ) (events : List Event) (b : Bool) → (IsTrue b → length sequences ≡ 1) → list_all (moves sequences columns ignore []) events ≡ true
    → list_all (upsert_fits columns ignore) events ≡ true → all_fit (target_kinds b sequences columns) (if b then scd2 ignore tracked events else scd1 ignore events) ≡ true
target_by sequences columns ignore tracked events true one all upserts = scd2_fits sequences columns ignore tracked (one refl) events all
target_by sequences columns ignore tracked events false one all upserts = scd1_fits columns ignore events upserts

pub target_fits : (sequences keys columns : List Kind) (cdc : Cdc) (events : List Event) → (IsTrue cdc.scd2 → length sequences ≡ 1) → all_events_of sequences keys columns events ≡ true
    → all_fit (target_kinds cdc.scd2 sequences columns) (target_rows cdc events) ≡ true
target_fits sequences keys columns cdc events one all =
    let moving = all_move sequences keys columns cdc.ignore_null events all in
    target_by sequences columns cdc.ignore_null cdc.tracked events cdc.scd2 one moving (all_upserts sequences keys columns cdc.ignore_null events moving)
