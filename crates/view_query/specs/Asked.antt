-- How a call answers what a query gives.
use Rattle.std.specs.Prelude.{◌≡◌, ⊤, List, map, None, Some, Result, Ok, Err}
use Rattle.value_core.specs.Bags.{in_row_order}
use Rattle.value_core.specs.Order.{Row}
use Rattle.plan_core.specs.declared.query.Query.{Query}
use Rattle.plan_core.specs.declared.stop.Stop.{Stop}
use Rattle.plan_core.specs.declared.stop.StopOr.{StopOr}
use Rattle.plan_core.specs.declared.stop.StopOr.TheVariants as either
use Rattle.flow_model.specs.Views.{query_stop, result_rows, shares_of}
use Rattle.view_groups.specs.AllGroups.{first_fault}

-- a call answers with the rows or the stop, or for want of memory with none
abbrev pub AskAnswers : Result (List Row) Stop → Result (List Row) StopOr → Type 0
AskAnswers outcome (Ok rows) = outcome ≡ Ok rows
AskAnswers outcome (Err (either.Stop stop)) = outcome ≡ Err stop
AskAnswers outcome (Err either.Memory) = ⊤

-- a pass over rows gives the result rows in some order, or the stop of the query
abbrev pub PassAnswers : Query → List Row → Result (List Row) StopOr → Type 0
PassAnswers query rows (Ok out) = (query_stop query rows ≡ None) × (in_row_order out ≡ result_rows query (shares_of query rows))
PassAnswers query rows (Err (either.Stop stop)) = query_stop query rows ≡ Some stop
PassAnswers query rows (Err either.Memory) = ⊤

-- a pass that only projects gives the projections, or the first fault
abbrev pub PlainAnswers : Query → List Row → Result (List Row) StopOr → Type 0
PlainAnswers query rows (Ok out) = (first_fault query rows ≡ None) × (out ≡ map (λ s. s.values) (shares_of query rows))
PlainAnswers query rows (Err (either.Stop stop)) = first_fault query rows ≡ Some stop
PlainAnswers query rows (Err either.Memory) = ⊤
