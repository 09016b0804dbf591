-- What expectations make of a row, and their counts.
use Rattle.std.specs.Prelude.{List, [], ◌∷◌, ℕ, ◌+◌, Bool, true, false, not, ◌&&◌, if◌then◌else◌, map, count_by, Option, Some, None, unwrap_or, Result, Ok, Err}
use Rattle.std.specs.List.{list_any}
use Rattle.std.specs.Option.{option_or}
use Rattle.value_core.specs.declared.change.Tally.{Tally}
use Rattle.value_core.specs.Order.{Row, is_true}
use Rattle.row_expr.specs.Eval.{Outcome, Fault, val}
use Rattle.plan_core.specs.declared.expectation.Action.{Action}
use Rattle.plan_core.specs.declared.expectation.Action.TheVariants.{DropRow, FailUpdate}
use Rattle.plan_core.specs.declared.expectation.Expectation.{Expectation}
use Rattle.plan_core.specs.declared.expectation.Verdict.{Verdict}
use Rattle.plan_core.specs.declared.expectation.Verdict.TheVariants.{Keep, DropIt, Fail}

-- a test passes where it is TRUE
abbrev pub is_pass : Outcome → Bool
is_pass (Ok value) = is_true value
is_pass (Err fault) = false

abbrev pub passes : Expectation → Row → Bool
passes expectation row = is_pass (val expectation.test row)

abbrev pub objection_of : Action → List ℕ → Outcome → Option (Result Verdict Fault)
objection_of action name (Err fault) = Some (Err fault)
objection_of FailUpdate name (Ok value) = if is_true value then None else Some (Ok (Fail name))
objection_of action name (Ok value) = None

-- why an expectation stops the flow at a row: it faults, or it has FAIL UPDATE and isn't TRUE
abbrev pub objection : Row → Expectation → Option (Result Verdict Fault)
objection row expectation = objection_of expectation.action expectation.name (val expectation.test row)

abbrev pub first_objection : List Expectation → Row → Option (Result Verdict Fault)
first_objection [] row = None
first_objection (x ∷ xs) row = option_or (objection row x) (first_objection xs row)

abbrev pub is_drop : Action → Bool
is_drop DropRow = true
is_drop action = false

-- an expectation has DROP ROW and isn't TRUE
abbrev pub drops : Row → Expectation → Bool
drops row expectation = is_drop expectation.action && not (passes expectation row)

-- the first objection; where there is none, the row is dropped if one expectation drops it, and else kept
abbrev pub admit : List Expectation → Row → Result Verdict Fault
admit xs row = unwrap_or (first_objection xs row) (Ok (if list_any (drops row) xs then DropIt else Keep))

-- on how many rows an expectation is TRUE and on how many it isn't
abbrev pub tally : List Row → Expectation → Tally
tally rows x = record { passed = count_by (passes x) rows; failed = count_by (λ row. not (passes x row)) rows }

-- the same of each expectation
abbrev pub counts : List Expectation → List Row → List Tally
counts xs rows = map (tally rows) xs
