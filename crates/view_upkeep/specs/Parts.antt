-- The result rows that a change may make go and come.
use Rattle.std.specs.Prelude.{◌≡◌, ⊤, List, map, None, Some, Result, Ok, Err}
use Rattle.value_core.specs.Order.{Row}
use Rattle.plan_core.specs.declared.query.Query.{Query}
use Rattle.plan_core.specs.declared.stop.StopOr.{StopOr}
use Rattle.plan_core.specs.declared.stop.StopOr.TheVariants as either
use Rattle.flow_model.specs.Views.{shares_of}
use Rattle.view_groups.specs.AllGroups.{first_fault}
use Rattle.view_upkeep.specs.declared.parts.Parts.{Parts}

-- a call answers with the projections of the rows that go and of those that come, or with the first fault of these
abbrev pub PartsAnswer : Query → List Row → List Row → Result Parts StopOr → Type 0
PartsAnswer query removed added (Ok parts) = (first_fault query added ≡ None) × (parts.before ≡ map (λ s. s.values) (shares_of query removed)) × (parts.after ≡ map (λ s. s.values) (shares_of query added))
PartsAnswer query removed added (Err (either.Stop stop)) = first_fault query added ≡ Some stop
PartsAnswer query removed added (Err either.Memory) = ⊤
