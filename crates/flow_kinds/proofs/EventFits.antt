-- The events of a change feed are of their kinds.
use Rattle.std.proofs.Common.{◌≡◌, ℕ, zero, suc, ◌<◌, List, [], ◌∷◌, ◌++◌, map, length, Bool, true, false, not, ◌&&◌, if◌then◌else◌, Some, Result, Ok, Err, refl, sym, ap, subst, arith, All, slice_get, slice_index_or}
use Rattle.std.specs.List.{list_all, list_any}
use Rattle.std.proofs.lemmas.Bool.{and_from}
use Rattle.std.proofs.lemmas.List.Elements.{All-head, All-tail}
use Rattle.value_core.specs.declared.event.Event.{Event}
use Rattle.value_core.specs.declared.event.EventKind.{EventKind}
use Rattle.value_core.specs.declared.event.EventKind.TheVariants.{Upsert, Delete, Truncate}
use Rattle.value_core.specs.declared.value.Kind.{Kind}
use Rattle.value_core.specs.declared.value.Value.TheVariants.{Null}
use Rattle.value_core.specs.EventOrder.{same_event}
use Rattle.value_core.specs.Fits.{row_fits, value_fits}
use Rattle.value_core.specs.Order.{Row, is_null}
use Rattle.row_expr.specs.Eval.{Fault}
use Rattle.plan_core.specs.declared.expectation.Expectation.{Expectation}
use Rattle.plan_core.specs.declared.expectation.Verdict.{Verdict}
use Rattle.plan_core.specs.declared.expectation.Verdict.TheVariants.{Keep, DropIt, Fail}
use Rattle.plan_core.specs.declared.flow.Cdc.{Cdc}
use Rattle.plan_core.specs.Sound.{IsSoundFeed, kinds_at}
use Rattle.flow_model.specs.Events.{fresh}
use Rattle.flow_model.specs.Feed.{by_kind, by_verdict, event_in, event_of, given, kind_of, NoSequence, pick, reading, verdict_on}
use Rattle.flow_kinds.specs.EventKinds.{all_events_of, all_fit, is_event_of, key_kinds}
use Rattle.flow_kinds.proofs.FitTools.{all_picked, both_of, first_there, head_of, some_is, tail_of, value_at}

-- ---- values at places

pub pick_fits : (source : List Kind) (row : Row) → row_fits source row ≡ true → (places : List ℕ) (kinds : List Kind) → kinds_at source places ≡ Some kinds → row_fits kinds (pick places row) ≡ true
pick_fits source row fits [] kinds are = subst (λ ks. row_fits ks [] ≡ true) (some_is [] kinds are) refl
pick_fits source row fits (at ∷ places) kinds are =
    let f = first_there (slice_get source at) (map (λ place. slice_get source place) places) kinds are in
    let here : value_fits f.item (slice_index_or row at Null) ≡ true = value_at source row at f.item fits f.is_item in
    let behind : row_fits f.others (pick places row) ≡ true = pick_fits source row fits places f.others f.are_others in
    subst (λ ks. row_fits ks (pick (at ∷ places) row) ≡ true) f.is_all (and_from (value_fits f.item (slice_index_or row at Null)) (row_fits f.others (pick places row)) here behind)

-- a place in range has an item
in_range : (kinds : List Kind) (at : ℕ) → at < length kinds → (k : Kind) × (slice_get kinds at ≡ Some k)
in_range [] at h = absurd (omega arith)
in_range (k ∷ kinds) zero h = (k, refl)
in_range (k ∷ kinds) (suc at) h = in_range kinds at (omega arith)

pub keys_fit : (columns : List Kind) (row : Row) → row_fits columns row ≡ true → (keys : List ℕ) → All (λ at. at < length columns) keys → row_fits (key_kinds columns keys) (pick keys row) ≡ true
keys_fit columns row fits [] within = refl
keys_fit columns row fits (at ∷ keys) within =
    let k = in_range columns at (All-head (λ place. place < length columns) at keys within) in
    let here : value_fits k.0 (slice_index_or row at Null) ≡ true = value_at columns row at k.0 fits k.1 in
    let behind = keys_fit columns row fits keys (All-tail (λ place. place < length columns) at keys within) in
    rw k.1 (and_from (value_fits k.0 (slice_index_or row at Null)) (row_fits (key_kinds columns keys) (pick keys row)) here behind)

-- ---- the event of a row

module _ (source sequences columns : List Kind) (cdc : Cdc) (xs : List Expectation) (sound : IsSoundFeed source sequences columns cdc) (row : Row) (fits : row_fits source row ≡ true) where
  abbrev keys : List Kind
  keys = key_kinds columns cdc.keys

  seq_fits : row_fits sequences (pick cdc.sequence row) ≡ true
  seq_fits = pick_fits source row fits cdc.sequence sequences sound.sequence

  columns_fit : row_fits columns (pick cdc.outputs row) ≡ true
  columns_fit = pick_fits source row fits cdc.outputs columns sound.outputs

  key_fits : row_fits keys (pick cdc.keys (pick cdc.outputs row)) ≡ true
  key_fits = keys_fit columns (pick cdc.outputs row) columns_fit cdc.keys sound.keys_in_range

  clear : (b : Bool) → b ≡ false → not b ≡ true
  clear true e = cc
  clear false e = refl

  front : list_any is_null (pick cdc.sequence row) ≡ false → (row_fits sequences (pick cdc.sequence row) && not (list_any is_null (pick cdc.sequence row))) ≡ true
  front none = and_from (row_fits sequences (pick cdc.sequence row)) (not (list_any is_null (pick cdc.sequence row))) seq_fits (clear (list_any is_null (pick cdc.sequence row)) none)

  of_kind : (kind : EventKind) → list_any is_null (pick cdc.sequence row) ≡ false → is_event_of sequences keys columns (event_of cdc row kind) ≡ true
  of_kind Upsert none =
      and_from (row_fits sequences (pick cdc.sequence row) && not (list_any is_null (pick cdc.sequence row))) (row_fits keys (pick cdc.keys (pick cdc.outputs row)) && row_fits columns (pick cdc.outputs row)) (front none)
      (and_from (row_fits keys (pick cdc.keys (pick cdc.outputs row))) (row_fits columns (pick cdc.outputs row)) key_fits columns_fit)
  of_kind Delete none = and_from (row_fits sequences (pick cdc.sequence row) && not (list_any is_null (pick cdc.sequence row))) (row_fits keys (pick cdc.keys (pick cdc.outputs row))) (front none) key_fits
  of_kind Truncate none = and_from (row_fits sequences (pick cdc.sequence row) && not (list_any is_null (pick cdc.sequence row))) true (front none) refl

  same_sequence : (kind : EventKind) → (event_of cdc row kind).sequence ≡ pick cdc.sequence row
  same_sequence Upsert = refl
  same_sequence Delete = refl
  same_sequence Truncate = refl

  by_admission : (event e : Event) (v : Result Verdict Fault) → event_in (by_verdict e v) ≡ Some event → e ≡ event
  by_admission event e (Err fault) h = cc
  by_admission event e (Ok (Fail name)) h = cc
  by_admission event e (Ok DropIt) h = cc
  by_admission event e (Ok Keep) h = some_is e event h

  by_sequence : (kind : EventKind) (event : Event) (b : Bool) → list_any is_null (pick cdc.sequence row) ≡ b
      → event_in (if b then NoSequence else by_verdict (event_of cdc row kind) (verdict_on xs (event_of cdc row kind).kind (event_of cdc row kind).columns)) ≡ Some event → is_event_of sequences keys columns event ≡ true
  by_sequence kind event true is h = cc
  by_sequence kind event false is h =
      subst (λ e. is_event_of sequences keys columns e ≡ true)
      (by_admission event (event_of cdc row kind) (verdict_on xs (event_of cdc row kind).kind (event_of cdc row kind).columns) h) (of_kind kind is)

  by_reading : (event : Event) (r : Result EventKind Fault) → event_in (by_kind cdc xs row r) ≡ Some event → is_event_of sequences keys columns event ≡ true
  by_reading event (Err fault) h = cc
  by_reading event (Ok kind) h =
      by_sequence kind event (list_any is_null (event_of cdc row kind).sequence) (ap (list_any is_null) (sym (same_sequence kind))) h

  pub row_gives : (event : Event) → event_in (reading cdc xs row) ≡ Some event → is_event_of sequences keys columns event ≡ true
  row_gives event h = by_reading event (kind_of cdc row) h

pub given_fit : (source sequences columns : List Kind) (cdc : Cdc) (xs : List Expectation) (rows : List Row) → IsSoundFeed source sequences columns cdc → all_fit source rows ≡ true
    → all_events_of sequences (key_kinds columns cdc.keys) columns (given cdc xs rows) ≡ true
given_fit source sequences columns cdc xs rows sound fit =
    all_picked (is_event_of sequences (key_kinds columns cdc.keys) columns) (row_fits source) (λ row. event_in (reading cdc xs row)) (λ row fits event h. row_gives source sequences columns cdc xs sound row fits event h) rows fit

-- ---- fresh events are some of them

fresh_by : (test : Event → Bool) (event : Event) (without_it with_it : List Event) (b : Bool) → test event ≡ true → list_all test without_it ≡ true → list_all test with_it ≡ true
    → list_all test (if b then without_it else event ∷ with_it) ≡ true
fresh_by test event without_it with_it true h r s = r
fresh_by test event without_it with_it false h r s = both_of test event with_it h s

pub fresh_fit : (test : Event → Bool) (old events : List Event) → list_all test events ≡ true → list_all test (fresh old events) ≡ true
fresh_fit test old [] all = refl
fresh_fit test old (event ∷ more) all =
    fresh_by test event (fresh old more) (fresh (old ++ event ∷ []) more) (list_any (same_event event) old) (head_of test event more all) (fresh_fit test old more (tail_of test event more all))
    (fresh_fit test (old ++ event ∷ []) more (tail_of test event more all))
