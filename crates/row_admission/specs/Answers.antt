-- What the calls on rows answer.
use Rattle.std.specs.Prelude.{◌≡◌, List, Bool, true, false, if◌then◌else◌, map, Result, Ok, Err}
use Rattle.value_core.specs.Order.{Row, is_true}
use Rattle.row_expr.specs.Eval.{Fault, Outcome, and_then, Overflow, ZeroDivisor, BadCast}
use Rattle.row_expr.specs.declared.fault.RowFault.{RowFault}
use Rattle.row_expr.specs.declared.fault.RowFault.TheVariants as answer
use Rattle.plan_core.specs.declared.expectation.Action.{Action}
use Rattle.plan_core.specs.declared.expectation.Action.TheVariants.{FailUpdate}
use Rattle.plan_core.specs.declared.expectation.Expectation.{Expectation}
use Rattle.plan_core.specs.declared.expectation.Verdict.{Verdict}
use Rattle.plan_core.specs.declared.expectation.Verdict.TheVariants.{Keep, DropIt, Fail}
use Rattle.flow_model.specs.Admission.{passes}

-- a call answers with a result or its fault, or for want of memory with none
abbrev pub Gives : {A : Type 0} → Result A Fault → Result A RowFault → Type 0
Gives outcome (Ok a) = outcome ≡ Ok a
Gives outcome (Err answer.Overflow) = outcome ≡ Err Overflow
Gives outcome (Err answer.ZeroDivisor) = outcome ≡ Err ZeroDivisor
Gives outcome (Err answer.BadCast) = outcome ≡ Err BadCast
Gives outcome (Err answer.Memory) = Unit {0}

-- whether a value is TRUE
abbrev pub truth_of : Outcome → Result Bool Fault
truth_of = and_then (λ value. Ok (is_true value))

-- which expectations a row passes
abbrev pub marks_of : List Expectation → Row → List Bool
marks_of xs row = map (λ x. passes x row) xs

-- the marks are these, unless the row stops the flow
abbrev pub IsMarked : Result Verdict Fault → List Bool → List Bool → Type 0
IsMarked (Ok (Fail name)) marks wanted = Unit {0}
IsMarked verdict marks wanted = marks ≡ wanted

abbrev pub is_fail : Action → Bool
is_fail FailUpdate = true
is_fail action = false

-- the verdict where nothing stops the flow
abbrev pub verdict_of : Bool → Verdict
verdict_of dropped = if dropped then DropIt else Keep
