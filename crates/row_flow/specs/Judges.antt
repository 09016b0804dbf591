-- What the code answers of one row.
use Rattle.std.specs.Prelude.{◌≡◌, ◌⊎◌, ℕ, List, Bool, if◌then◌else◌, Result, Ok, Err}
use Rattle.value_core.specs.declared.event.EventKind.{EventKind}
use Rattle.value_core.specs.declared.event.EventKind.TheVariants as kind
use Rattle.value_core.specs.Order.{Row}
use Rattle.row_expr.specs.Eval.{Fault, Overflow, ZeroDivisor, BadCast, and_then}
use Rattle.row_expr.specs.declared.fault.RowFault.{RowFault}
use Rattle.row_expr.specs.declared.fault.RowFault.TheVariants as answer
use Rattle.plan_core.specs.declared.expectation.Expectation.{Expectation}
use Rattle.plan_core.specs.declared.flow.AppendFlow.{AppendFlow}
use Rattle.plan_core.specs.declared.flow.Cdc.{Cdc}
use Rattle.plan_core.specs.declared.stop.Place.TheVariants.{Number}
use Rattle.plan_core.specs.declared.stop.Stop.{Stop}
use Rattle.plan_core.specs.declared.stop.Stop.TheVariants as ends
use Rattle.flow_model.specs.Append as append
use Rattle.flow_model.specs.Causes.{Cause, Faults, Fails, stop_at}
use Rattle.flow_model.specs.Feed as feed
use Rattle.row_flow.specs.Results.{AreMarks, append_result, feed_result, seen_of}
use Rattle.row_flow.specs.declared.result.Judged.{Judged}
use Rattle.row_flow.specs.declared.result.RowStop.{RowStop}
use Rattle.row_flow.specs.declared.result.RowStop.TheVariants as stop

-- ---- why a row stops

-- a fault is this one
abbrev pub IsFault : Cause → RowFault → Type 0
IsFault (Faults Overflow) answer.Overflow = Unit {0}
IsFault (Faults ZeroDivisor) answer.ZeroDivisor = Unit {0}
IsFault (Faults BadCast) answer.BadCast = Unit {0}
IsFault cause fault = ⊥

abbrev pub IsCause : Cause → RowStop → Type 0
IsCause (Fails name) (stop.Fails given) = given ≡ name
IsCause cause (stop.Fault fault) = IsFault cause fault
IsCause cause other = ⊥

abbrev pub IsNoMemory : RowStop → Type 0
IsNoMemory (stop.Fault answer.Memory) = Unit {0}
IsNoMemory other = ⊥

abbrev pub IsNoSequence : RowStop → Type 0
IsNoSequence stop.NoSequence = Unit {0}
IsNoSequence other = ⊥

-- the stop by this, at the row of a number; want of memory is none
abbrev pub StopsAt : ℕ → RowStop → Stop → Type 0
StopsAt number (stop.Fault answer.Memory) given = ⊥
StopsAt number stop.NoSequence given = given ≡ ends.NullSequence number
StopsAt number why given = (cause : Cause) → IsCause cause why → given ≡ stop_at (Number number) cause

-- ---- a flow that appends

abbrev pub by_outputs_of : AppendFlow → List Expectation → Row → append.Judged
by_outputs_of flow xs row = append.by_outputs xs (append.projected flow.outputs row)

-- a row comes to this, with the marks of the row that the expectations were judged on
abbrev pub IsJudged : List Expectation → Judged → Judged → List Bool → Type 0
IsJudged xs wanted judged marks = (judged ≡ wanted) × AreMarks xs (seen_of wanted) marks

-- what becomes of a row, whatever its number
abbrev pub Judges : List Expectation → append.Judged → Result Judged RowStop → List Bool → Type 0
Judges xs (append.Stops cause) (Ok judged) marks = ⊥
Judges xs (append.Stops cause) (Err why) marks = IsCause cause why ⊎ IsNoMemory why
Judges xs wanted (Ok judged) marks = IsJudged xs (append_result 0 wanted) judged marks
Judges xs wanted (Err why) marks = IsNoMemory why

-- ---- a change feed

-- the kind of an event that is no truncate
abbrev pub kind_behind : Cdc → Row → Result EventKind Fault
kind_behind cdc row = and_then (λ deletes. Ok (if deletes then kind.Delete else kind.Upsert)) (feed.applies cdc.delete_when row)

abbrev pub FeedJudges : List Expectation → feed.Reading → Result Judged RowStop → List Bool → Type 0
FeedJudges xs (feed.Stops cause) (Ok judged) marks = ⊥
FeedJudges xs (feed.Stops cause) (Err why) marks = IsCause cause why ⊎ IsNoMemory why
FeedJudges xs feed.NoSequence (Ok judged) marks = ⊥
FeedJudges xs feed.NoSequence (Err why) marks = IsNoSequence why ⊎ IsNoMemory why
FeedJudges xs wanted (Ok judged) marks = IsJudged xs (feed_result 0 wanted) judged marks
FeedJudges xs wanted (Err why) marks = IsNoMemory why
