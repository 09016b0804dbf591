-- What is answered where expectations judge the result rows of a view.
use Rattle.std.specs.Prelude.{◌≡◌, ◌++◌, ⊤, List, [], ◌∷◌, Bool, true, false, cond, map, None, Some, Result, Ok, Err}
use Rattle.value_core.specs.declared.change.Tally.{Tally}
use Rattle.value_core.specs.Tallies.{added}
use Rattle.value_core.specs.Order.{Row}
use Rattle.row_expr.specs.Eval.{Fault}
use Rattle.plan_core.specs.declared.expectation.Expectation.{Expectation}
use Rattle.plan_core.specs.declared.expectation.Verdict.{Verdict}
use Rattle.plan_core.specs.declared.expectation.Verdict.TheVariants.{Keep, DropIt}
use Rattle.plan_core.specs.declared.stop.Stop.{Stop}
use Rattle.plan_core.specs.declared.stop.StopOr.{StopOr}
use Rattle.plan_core.specs.declared.stop.StopOr.TheVariants as either
use Rattle.flow_model.specs.Admission.{admit}
use Rattle.flow_model.specs.Views.{Viewed, verdict_stop, is_keep}
use Rattle.row_admission.specs.Answers.{marks_of}
use Rattle.view_query.specs.declared.judging.Judged.{Judged}

-- what one row adds to the counts of an expectation
abbrev pub tally_of : Bool → Tally
tally_of true = record { passed = 1; failed = 0 }
tally_of false = record { passed = 0; failed = 1 }

-- a call answers whether a row is kept, or the stop at it, or for want of memory neither
abbrev pub VerdictAnswers : Row → Result Verdict Fault → Result Bool StopOr → Type 0
VerdictAnswers row verdict (Ok true) = verdict ≡ Ok Keep
VerdictAnswers row verdict (Ok false) = verdict ≡ Ok DropIt
VerdictAnswers row verdict (Err (either.Stop stop)) = verdict_stop row verdict ≡ Some stop
VerdictAnswers row verdict (Err either.Memory) = ⊤

-- a row that isn't stopped is put behind the rows if it is kept, and counted
pub record TakesRow (xs : List Expectation) (row : Row) (rows rows' : List Row) (tallies tallies' : List Tally) : Type 0 where
  pub goes_on : verdict_stop row (admit xs row) ≡ None
  pub kept : rows' ≡ rows ++ cond (is_keep (admit xs row)) (row ∷ []) []
  pub counted : tallies' ≡ added tallies (map tally_of (marks_of xs row))

-- a call answers with the kept rows and the counts or the stop, or for want of memory with neither
abbrev pub JudgeAnswers : Result Viewed Stop → Result Judged StopOr → Type 0
JudgeAnswers outcome (Ok judged) = outcome ≡ Ok (record { rows = judged.rows; counts = judged.counts })
JudgeAnswers outcome (Err (either.Stop stop)) = outcome ≡ Err stop
JudgeAnswers outcome (Err either.Memory) = ⊤

-- this stop, or want of memory
abbrev pub IsStop : Stop → StopOr → Type 0
IsStop wanted (either.Stop stop) = stop ≡ wanted
IsStop wanted either.Memory = ⊤

-- a row is taken in, or stops the view
abbrev pub RowAnswers : List Expectation → Row → List Row → List Row → List Tally → List Tally → Result (Unit {0}) StopOr → Type 0
RowAnswers xs row rows rows' tallies tallies' (Ok done) = TakesRow xs row rows rows' tallies tallies'
RowAnswers xs row rows rows' tallies tallies' (Err (either.Stop stop)) = verdict_stop row (admit xs row) ≡ Some stop
RowAnswers xs row rows rows' tallies tallies' (Err either.Memory) = ⊤
