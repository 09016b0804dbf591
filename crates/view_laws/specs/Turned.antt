-- What a change of its source makes of a view, from the rows that go and come alone.
use Rattle.std.specs.Prelude.{◌≡◌, List, true, if◌then◌else◌, map, filter, filter_map, flat_map, Option, Some, None, Result, Ok, Err}
use Rattle.std.specs.Option.{option_or}
use Rattle.value_core.specs.declared.change.Change.{Change}
use Rattle.value_core.specs.Bags.{in_row_order}
use Rattle.value_core.specs.Changes.{IsChange, Holds}
use Rattle.value_core.specs.Order.{Row}
use Rattle.plan_core.specs.Sound.{is_grouped}
use Rattle.plan_core.specs.declared.expectation.Expectation.{Expectation}
use Rattle.plan_core.specs.declared.query.Query.{Query}
use Rattle.plan_core.specs.declared.stop.Stop.{Stop}
use Rattle.flow_model.specs.Admission.{admit, counts}
use Rattle.flow_model.specs.Views.{Share, share, fault_stop, sum_stops, first_of, shares_of, result_rows, Viewed, is_keep, verdict_stop, viewed}
use Rattle.view_laws.specs.Touched.{is_there, rows_of_groups, Touches}

-- a view over rows without a stop, a change of rows that are there, and the groups that it touches
pub record IsTurn (query : Query) (xs : List Expectation) (rows : List Row) (change : Change) (touched : List Row) : Type 0 where
  pub before : Viewed
  pub stands : viewed query xs rows ≡ Ok before
  pub form : IsChange change
  pub held : Holds rows change.removed
  pub touches : is_grouped query ≡ true → Touches touched (shares_of query change.removed) (shares_of query change.added)

-- the result rows that may go or come: those of the touched groups, or those of the shares that move
abbrev pub part_rows : Query → List Share → List Row → List Share → List Row
part_rows query shares touched moved = if is_grouped query then rows_of_groups query shares touched else map (λ s. s.values) moved

-- the first fault of the rows that come, else the first sum outside BIGINT of the least touched group
abbrev pub part_stop : Query → List Share → List Row → List Row → Option Stop
part_stop query shares touched added = option_or (first_of (filter_map (λ row. fault_stop row (share query row)) added))
    (if is_grouped query then first_of (flat_map (sum_stops query shares) (filter (is_there query shares) touched)) else None)

-- the first stop of the least of some result rows
abbrev pub row_stop : List Expectation → List Row → Option Stop
row_stop xs rows = first_of (filter_map (λ row. verdict_stop row (admit xs row)) (in_row_order rows))

-- the first of two stops, else what is there
abbrev pub unless_stopped : Option Stop → Option Stop → Viewed → Result Viewed Stop
unless_stopped (Some stop) later after = Err stop
unless_stopped None (Some stop) after = Err stop
unless_stopped None None after = Ok after

-- what the expectations keep of result rows
abbrev pub kept_of : List Expectation → List Row → List Row
kept_of xs rows = filter (λ row. is_keep (admit xs row)) rows

-- what is kept of a result, and its counts
abbrev pub judged_rows : List Expectation → List Row → Viewed
judged_rows xs result = record { rows = kept_of xs result; counts = counts xs result }

-- the result rows over source rows
abbrev pub result_over : Query → List Row → List Row
result_over query rows = result_rows query (shares_of query (in_row_order rows))

-- those of them that may go or come when these source rows do
abbrev pub part_over : Query → List Row → List Row → List Row → List Row
part_over query rows touched moved = part_rows query (shares_of query (in_row_order rows)) touched (shares_of query moved)
