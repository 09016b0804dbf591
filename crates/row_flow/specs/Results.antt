-- What rows come to, as the code has it.
use Rattle.std.specs.Prelude.{◌≡◌, ℕ, ◌+◌, List, [], ◌∷◌, ◌++◌, Bool, true, false, if◌then◌else◌, Option, Some, None, is_some, option_map, Result, Ok, Err}
use Rattle.std.specs.List.{cons_option}
use Rattle.std.specs.Option.{option_or}
use Rattle.value_core.specs.declared.event.Event.{Event}
use Rattle.value_core.specs.declared.event.NumberedEvent.{NumberedEvent}
use Rattle.value_core.specs.EventOrder.{is_upsert}
use Rattle.value_core.specs.Order.{Row}
use Rattle.row_expr.specs.Eval.{Fault}
use Rattle.plan_core.specs.declared.expectation.Expectation.{Expectation}
use Rattle.plan_core.specs.declared.flow.AppendFlow.{AppendFlow}
use Rattle.plan_core.specs.declared.flow.Cdc.{Cdc}
use Rattle.plan_core.specs.declared.stop.Place.TheVariants.{Number}
use Rattle.plan_core.specs.declared.stop.Stop.{Stop}
use Rattle.plan_core.specs.declared.stop.Stop.TheVariants as stop
use Rattle.flow_model.specs.Append as append
use Rattle.flow_model.specs.Causes.{stop_at}
use Rattle.flow_model.specs.Feed as feed
use Rattle.flow_model.specs.Halts.{numbered as with_number}
use Rattle.par_rows.specs.Rows.{numbered}
use Rattle.row_admission.specs.Answers.{marks_of}
use Rattle.row_flow.specs.declared.result.Judged.{Judged}
use Rattle.row_flow.specs.declared.result.Judged.TheVariants.{Passed, Kept, Dropped, Upsert, Other, Halt}
use Rattle.row_flow.specs.declared.result.RowResult.{RowResult}

-- ---- one row

-- what the row of a number comes to in a flow that appends
abbrev pub append_result : ℕ → append.Judged → Judged
append_result number append.PassedOver = Passed
append_result number (append.Stops cause) = Halt (stop_at (Number number) cause)
append_result number (append.Drops out) = Dropped out
append_result number (append.Keeps out) = Kept out

abbrev pub event_result : Event → Bool → Judged
event_result event true = Upsert event
event_result event false = Other event

-- and in a change feed
abbrev pub feed_result : ℕ → feed.Reading → Judged
feed_result number (feed.Stops cause) = Halt (stop_at (Number number) cause)
feed_result number feed.NoSequence = Halt (stop.NullSequence number)
feed_result number (feed.Drops columns) = Dropped columns
feed_result number (feed.Gives event) = event_result event (is_upsert event)

abbrev pub halt_of : Judged → Option Stop
halt_of (Halt stop) = Some stop
halt_of other = None

abbrev pub kept_of : Judged → Option Row
kept_of (Kept out) = Some out
kept_of other = None

abbrev pub event_of : Judged → Option Event
event_of (Upsert event) = Some event
event_of (Other event) = Some event
event_of other = None

-- the row that the expectations were judged on
abbrev pub seen_of : Judged → Option Row
seen_of (Kept out) = Some out
seen_of (Dropped out) = Some out
seen_of (Upsert event) = Some event.columns
seen_of other = None

abbrev pub AreMarks : List Expectation → Option Row → List Bool → Type 0
AreMarks xs (Some row) marks = marks ≡ marks_of xs row
AreMarks xs None marks = Unit {0}

-- a result is the one that is wanted, with the marks of the row that the expectations were judged on
pub record IsResult (xs : List Expectation) (wanted : Judged) (result : RowResult) : Type 0 where
  pub judged : result.judged ≡ wanted
  pub marks : AreMarks xs (seen_of wanted) result.marks

-- a front of values, and the others behind it
abbrev pub joined : Row → Result Row Fault → Result Row Fault
joined front (Ok values) = Ok (front ++ values)
joined front (Err fault) = Err fault

-- ---- a list of rows

abbrev pub append_results : AppendFlow → List Expectation → List Row → List Judged
append_results flow xs rows = numbered (λ i row. append_result (i + 1) (append.judged flow xs row)) 0 rows

abbrev pub feed_results : Cdc → List Expectation → List Row → List Judged
feed_results cdc xs rows = numbered (λ i row. feed_result (i + 1) (feed.reading cdc xs row)) 0 rows

-- each result that came is the one that is wanted
abbrev pub Come : {E : Type 0} → List Expectation → List Judged → List (Result RowResult E) → Type 0
Come xs [] [] = Unit {0}
Come xs [] (came ∷ more) = ⊥
Come xs (wanted ∷ others) [] = ⊥
Come xs (wanted ∷ others) (Ok came ∷ more) = IsResult xs wanted came × Come xs others more
Come xs (wanted ∷ others) (Err e ∷ more) = Come xs others more

-- the first stop
abbrev pub first_halt : List Judged → Option Stop
first_halt [] = None
first_halt (judged ∷ more) = option_or (halt_of judged) (first_halt more)

-- the rows before it, or all where there is none
abbrev pub before_halt : List Judged → List Judged
before_halt [] = []
before_halt (judged ∷ more) = if is_some (halt_of judged) then [] else judged ∷ before_halt more

-- their events, each with the number of its row
abbrev pub events_from : ℕ → List Judged → List NumberedEvent
events_from number [] = []
events_from number (judged ∷ more) = cons_option (option_map (with_number number) (event_of judged)) (events_from (number + 1) more)
