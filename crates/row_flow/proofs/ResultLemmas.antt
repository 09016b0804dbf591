-- What rows come to, and what the definitions say of them.
use Rattle.std.proofs.Common.{◌≡◌, ◌∙◌, refl, ap, ℕ, ◌+◌, List, [], ◌∷◌, length, map, suc, cond, Bool, true, false, Option, Some, None, Result, Ok, Err, IfOk, ⊎_elim}
use Rattle.std.specs.Prelude.{filter_map, option_map}
use Rattle.std.specs.List.{cons_option}
use Rattle.std.specs.Option.{option_or}
use Rattle.value_core.specs.declared.event.Event.{Event}
use Rattle.value_core.specs.EventOrder.{is_upsert}
use Rattle.value_core.specs.Order.{Row}
use Rattle.row_expr.specs.declared.fault.RowFault.TheVariants as answer
use Rattle.plan_core.specs.declared.expectation.Expectation.{Expectation}
use Rattle.plan_core.specs.declared.flow.AppendFlow.{AppendFlow}
use Rattle.plan_core.specs.declared.flow.Cdc.{Cdc}
use Rattle.plan_core.specs.declared.stop.Place.TheVariants.{Number}
use Rattle.plan_core.specs.declared.stop.Stop.{Stop}
use Rattle.flow_model.specs.Append as append
use Rattle.flow_model.specs.Causes.{Cause, Faults, Fails, stop_at}
use Rattle.flow_model.specs.Feed as feed
use Rattle.flow_model.specs.Halts.{feed_halt, front, front_events, halt_from, numbered as with_number, numbered_from, own_stop, readings, up_to_halt}
use Rattle.par_rows.specs.Rows.{Answered, numbered}
use Rattle.row_flow.specs.declared.result.Judged.{Judged}
use Rattle.row_flow.specs.declared.result.Judged.TheVariants as code
use Rattle.row_flow.specs.declared.result.RowResult.{RowResult}
use Rattle.row_flow.specs.declared.result.RowStop.{RowStop}
use Rattle.row_flow.specs.declared.result.RowStop.TheVariants as why
use Rattle.row_flow.specs.Judges.{FeedJudges, IsCause, IsNoMemory, IsNoSequence, Judges, StopsAt}
use Rattle.row_flow.specs.Results.{Come, IsResult, append_result, append_results, before_halt, event_result, events_from, feed_result, feed_results, first_halt, halt_of, kept_of, seen_of}

-- ---- one row

pub append_is : (xs : List Expectation) (wanted : append.Judged) (number : ℕ) (judged : Judged) (marks : List Bool) → Judges xs wanted (Ok judged) marks → IsResult xs (append_result number wanted) (record { judged = judged; marks = marks })
append_is xs append.PassedOver number judged marks given = record { judged = given.0; marks = given.1 }
append_is xs (append.Stops cause) number judged marks given = absurd given
append_is xs (append.Drops out) number judged marks given = record { judged = given.0; marks = given.1 }
append_is xs (append.Keeps out) number judged marks given = record { judged = given.0; marks = given.1 }

-- want of memory is no stop
no_stop : {A : Type 0} (number : ℕ) (reason : RowStop) (stop : Stop) → IsNoMemory reason → StopsAt number reason stop → A
no_stop number (why.Fails name) stop is at = absurd is
no_stop number why.NoSequence stop is at = absurd is
no_stop number (why.Fault answer.Overflow) stop is at = absurd is
no_stop number (why.Fault answer.ZeroDivisor) stop is at = absurd is
no_stop number (why.Fault answer.BadCast) stop is at = absurd is
no_stop number (why.Fault answer.Memory) stop is at = absurd at

no_cause : {A : Type 0} (cause : Cause) → IsCause cause why.NoSequence → A
no_cause (Faults fault) is = absurd is
no_cause (Fails name) is = absurd is

stop-by : (cause : Cause) (number : ℕ) (reason : RowStop) (stop : Stop) → IsCause cause reason → StopsAt number reason stop → stop ≡ stop_at (Number number) cause
stop-by cause number (why.Fails name) stop is at = at cause is
stop-by cause number why.NoSequence stop is at = no_cause cause is
stop-by cause number (why.Fault answer.Overflow) stop is at = at cause is
stop-by cause number (why.Fault answer.ZeroDivisor) stop is at = at cause is
stop-by cause number (why.Fault answer.BadCast) stop is at = at cause is
stop-by cause number (why.Fault answer.Memory) stop is at = absurd at

null-by : (number : ℕ) (reason : RowStop) (stop : Stop) → IsNoSequence reason → StopsAt number reason stop → code.Halt stop ≡ feed_result number feed.NoSequence
null-by number (why.Fails name) stop is at = absurd is
null-by number why.NoSequence stop is at = ap code.Halt at
null-by number (why.Fault fault) stop is at = absurd is

pub append_stops : (xs : List Expectation) (wanted : append.Judged) (number : ℕ) (reason : RowStop) (marks : List Bool) (stop : Stop) → Judges xs wanted (Err reason) marks → StopsAt number reason stop
    → IsResult xs (append_result number wanted) (record { judged = code.Halt stop; marks = marks })
append_stops xs (append.Stops cause) number reason marks stop given at =
    record { judged = ⊎_elim (λ is. ap code.Halt (stop-by cause number reason stop is at)) (λ is. no_stop number reason stop is at) given; marks = tt }
append_stops xs append.PassedOver number reason marks stop given at = no_stop number reason stop given at
append_stops xs (append.Drops out) number reason marks stop given at = no_stop number reason stop given at
append_stops xs (append.Keeps out) number reason marks stop given at = no_stop number reason stop given at

pub feed_is : (xs : List Expectation) (wanted : feed.Reading) (number : ℕ) (judged : Judged) (marks : List Bool) → FeedJudges xs wanted (Ok judged) marks → IsResult xs (feed_result number wanted) (record { judged = judged; marks = marks })
feed_is xs (feed.Stops cause) number judged marks given = absurd given
feed_is xs feed.NoSequence number judged marks given = absurd given
feed_is xs (feed.Drops columns) number judged marks given = record { judged = given.0; marks = given.1 }
feed_is xs (feed.Gives event) number judged marks given = record { judged = given.0; marks = given.1 }

pub feed_stops : (xs : List Expectation) (wanted : feed.Reading) (number : ℕ) (reason : RowStop) (marks : List Bool) (stop : Stop) → FeedJudges xs wanted (Err reason) marks → StopsAt number reason stop
    → IsResult xs (feed_result number wanted) (record { judged = code.Halt stop; marks = marks })
feed_stops xs (feed.Stops cause) number reason marks stop given at =
    record { judged = ⊎_elim (λ is. ap code.Halt (stop-by cause number reason stop is at)) (λ is. no_stop number reason stop is at) given; marks = tt }
feed_stops xs feed.NoSequence number reason marks stop given at =
    record { judged = ⊎_elim (λ is. null-by number reason stop is at) (λ is. no_stop number reason stop is at) given; marks = tt }
feed_stops xs (feed.Drops columns) number reason marks stop given at = no_stop number reason stop given at
feed_stops xs (feed.Gives event) number reason marks stop given at = no_stop number reason stop given at

-- ---- a list of rows

pub come_of : {T E : Type 0} (xs : List Expectation) (h : ℕ → T → Judged) (from : ℕ) (rows : List T) (answers : List (Result RowResult E)) → Answered (λ i row answer. IfOk answer (IsResult xs (h i row))) from rows answers
    → Come xs (numbered h from rows) answers
come_of xs h from [] [] a = tt
come_of xs h from [] (r ∷ answers) a = absurd a
come_of xs h from (x ∷ rows) [] a = absurd a
come_of xs h from (x ∷ rows) (Ok r ∷ answers) a = (a.0, come_of xs h (from + 1) rows answers a.1)
come_of xs h from (x ∷ rows) (Err e ∷ answers) a = come_of xs h (from + 1) rows answers a.1

pub numbered_map : {A B R : Type 0} (h : ℕ → B → R) (f : A → B) (from : ℕ) (xs : List A) → numbered (λ i x. h i (f x)) from xs ≡ numbered h from (map f xs)
numbered_map h f from [] = refl
numbered_map h f from (x ∷ xs) = ap (λ rest. h from (f x) ∷ rest) (numbered_map h f (from + 1) xs)

-- where no row stops, none is left out
pub all_before : (results : List Judged) → first_halt results ≡ None → before_halt results ≡ results
all_before [] none = refl
all_before (code.Passed ∷ more) none = ap (λ rest. code.Passed ∷ rest) (all_before more none)
all_before (code.Kept row ∷ more) none = ap (λ rest. code.Kept row ∷ rest) (all_before more none)
all_before (code.Dropped row ∷ more) none = ap (λ rest. code.Dropped row ∷ rest) (all_before more none)
all_before (code.Upsert event ∷ more) none = ap (λ rest. code.Upsert event ∷ rest) (all_before more none)
all_before (code.Other event ∷ more) none = ap (λ rest. code.Other event ∷ rest) (all_before more none)
all_before (code.Halt stop ∷ more) none = absurd cc

pub length-numbered : {T R : Type 0} (h : ℕ → T → R) (from : ℕ) (rows : List T) → length (numbered h from rows) ≡ length rows
length-numbered h from [] = refl
length-numbered h from (row ∷ rows) = ap suc (length-numbered h (from + 1) rows)

-- ---- a flow that appends

halt-append : (number : ℕ) (wanted : append.Judged) → halt_of (append_result number wanted) ≡ option_map (stop_at (Number number)) (append.cause_of wanted)
halt-append number append.PassedOver = refl
halt-append number (append.Stops cause) = refl
halt-append number (append.Drops out) = refl
halt-append number (append.Keeps out) = refl

kept-append : (number : ℕ) (wanted : append.Judged) → kept_of (append_result number wanted) ≡ append.kept_of wanted
kept-append number append.PassedOver = refl
kept-append number (append.Stops cause) = refl
kept-append number (append.Drops out) = refl
kept-append number (append.Keeps out) = refl

seen-append : (number : ℕ) (wanted : append.Judged) → seen_of (append_result number wanted) ≡ append.seen_of wanted
seen-append number append.PassedOver = refl
seen-append number (append.Stops cause) = refl
seen-append number (append.Drops out) = refl
seen-append number (append.Keeps out) = refl

module _ (flow : AppendFlow) (xs : List Expectation) where
  abbrev wanted_at : ℕ → Row → Judged
  wanted_at i row = append_result (i + 1) (append.judged flow xs row)

  halt_from_rows : (from : ℕ) (rows : List Row) → first_halt (numbered wanted_at from rows) ≡ append.append_stop_from (from + 1) flow xs rows
  halt_from_rows from [] = refl
  halt_from_rows from (row ∷ rows) =
      ap (λ (own : Option Stop). option_or own (first_halt (numbered wanted_at (from + 1) rows))) (halt-append (from + 1) (append.judged flow xs row))
      ∙ ap (option_or (option_map (stop_at (Number (from + 1))) (append.cause_of (append.judged flow xs row)))) (halt_from_rows (from + 1) rows)

  kept_from_rows : (from : ℕ) (rows : List Row) → filter_map kept_of (numbered wanted_at from rows) ≡ append.append_out flow xs rows
  kept_from_rows from [] = refl
  kept_from_rows from (row ∷ rows) =
      ap (λ (own : Option Row). cons_option own (filter_map kept_of (numbered wanted_at (from + 1) rows))) (kept-append (from + 1) (append.judged flow xs row))
      ∙ ap (cons_option (append.kept_of (append.judged flow xs row))) (kept_from_rows (from + 1) rows)

  seen_from_rows : (from : ℕ) (rows : List Row) → filter_map seen_of (numbered wanted_at from rows) ≡ append.append_seen flow xs rows
  seen_from_rows from [] = refl
  seen_from_rows from (row ∷ rows) =
      ap (λ (own : Option Row). cons_option own (filter_map seen_of (numbered wanted_at (from + 1) rows))) (seen-append (from + 1) (append.judged flow xs row))
      ∙ ap (cons_option (append.seen_of (append.judged flow xs row))) (seen_from_rows (from + 1) rows)

  pub append_halts : (rows : List Row) → first_halt (append_results flow xs rows) ≡ append.append_stop flow xs rows
  append_halts rows = halt_from_rows 0 rows

  pub append_keeps : (rows : List Row) → filter_map kept_of (append_results flow xs rows) ≡ append.append_out flow xs rows
  append_keeps rows = kept_from_rows 0 rows

  pub append_sees : (rows : List Row) → filter_map seen_of (append_results flow xs rows) ≡ append.append_seen flow xs rows
  append_sees rows = seen_from_rows 0 rows

-- ---- a change feed

no_halt : (event : Event) (upsert : Bool) → halt_of (event_result event upsert) ≡ None
no_halt event true = refl
no_halt event false = refl

halt-feed : (number : ℕ) (reading : feed.Reading) → halt_of (feed_result number reading) ≡ own_stop number reading
halt-feed number (feed.Stops cause) = refl
halt-feed number feed.NoSequence = refl
halt-feed number (feed.Drops columns) = refl
halt-feed number (feed.Gives event) = no_halt event (is_upsert event)

-- what the code has of rows, and what the definitions have of them
record Agree (number : ℕ) (results : List Judged) (read : List feed.Reading) : Type 0 where
  rows : length results ≡ length read
  events : events_from number results ≡ numbered_from number read
  seen : filter_map seen_of results ≡ filter_map feed.upsert_in read

agree-event : (number : ℕ) (event : Event) (upsert : Bool) (results : List Judged) (read : List feed.Reading) → Agree (number + 1) (before_halt results) (up_to_halt read)
    → (seen : Option Row) → seen_of (event_result event upsert) ≡ seen
    → (length (before_halt (event_result event upsert ∷ results)) ≡ length (up_to_halt (feed.Gives event ∷ read)))
    × (events_from number (before_halt (event_result event upsert ∷ results)) ≡ numbered_from number (up_to_halt (feed.Gives event ∷ read)))
    × (filter_map seen_of (before_halt (event_result event upsert ∷ results)) ≡ cons_option seen (filter_map feed.upsert_in (up_to_halt read)))
agree-event number event true results read behind seen is =
    (ap suc behind.rows, ap (λ more. with_number number event ∷ more) behind.events, ap (λ own. cons_option own (filter_map seen_of (before_halt results))) is ∙ ap (cons_option seen) behind.seen)
agree-event number event false results read behind seen is =
    (ap suc behind.rows, ap (λ more. with_number number event ∷ more) behind.events, ap (λ own. cons_option own (filter_map seen_of (before_halt results))) is ∙ ap (cons_option seen) behind.seen)

seen-event : (event : Event) (upsert : Bool) → seen_of (event_result event upsert) ≡ cond upsert (Some event.columns) None
seen-event event true = refl
seen-event event false = refl

agree_more : (number : ℕ) (reading : feed.Reading) (results : List Judged) (read : List feed.Reading) → Agree (number + 1) (before_halt results) (up_to_halt read)
    → Agree number (before_halt (feed_result number reading ∷ results)) (up_to_halt (reading ∷ read))
agree_more number (feed.Stops cause) results read behind = record { rows = refl; events = refl; seen = refl }
agree_more number feed.NoSequence results read behind = record { rows = refl; events = refl; seen = refl }
agree_more number (feed.Drops columns) results read behind = record { rows = ap suc behind.rows; events = behind.events; seen = ap (λ more. columns ∷ more) behind.seen }
agree_more number (feed.Gives event) results read behind =
    let all = agree-event number event (is_upsert event) results read behind (cond (is_upsert event) (Some event.columns) None) (seen-event event (is_upsert event)) in
    record { rows = all.0; events = all.1; seen = all.2 }

module _ (cdc : Cdc) (xs : List Expectation) where
  abbrev read_at : ℕ → Row → Judged
  read_at i row = feed_result (i + 1) (feed.reading cdc xs row)

  halt_from_feed : (from : ℕ) (rows : List Row) → first_halt (numbered read_at from rows) ≡ halt_from (from + 1) (readings cdc xs rows)
  halt_from_feed from [] = refl
  halt_from_feed from (row ∷ rows) =
      ap (λ (own : Option Stop). option_or own (first_halt (numbered read_at (from + 1) rows))) (halt-feed (from + 1) (feed.reading cdc xs row))
      ∙ ap (option_or (own_stop (from + 1) (feed.reading cdc xs row))) (halt_from_feed (from + 1) rows)

  agree : (from : ℕ) (rows : List Row) → Agree (from + 1) (before_halt (numbered read_at from rows)) (up_to_halt (readings cdc xs rows))
  agree from [] = record { rows = refl; events = refl; seen = refl }
  agree from (row ∷ rows) = agree_more (from + 1) (feed.reading cdc xs row) (numbered read_at (from + 1) rows) (readings cdc xs rows) (agree (from + 1) rows)

  pub feed_halts : (rows : List Row) → first_halt (feed_results cdc xs rows) ≡ feed_halt cdc xs rows
  feed_halts rows = halt_from_feed 0 rows

  pub feed_reads : (rows : List Row) → length (before_halt (feed_results cdc xs rows)) ≡ length (front cdc xs rows)
  feed_reads rows = (agree 0 rows).rows

  pub feed_gives : (rows : List Row) → events_from 1 (before_halt (feed_results cdc xs rows)) ≡ front_events cdc xs rows
  feed_gives rows = (agree 0 rows).events

  pub feed_sees : (rows : List Row) → filter_map seen_of (before_halt (feed_results cdc xs rows)) ≡ filter_map feed.upsert_in (front cdc xs rows)
  feed_sees rows = (agree 0 rows).seen
