-- The parts of a plan that selects make.
use Rattle.std.specs.Prelude.{ℕ, List}
use Rattle.plan_core.specs.declared.flow.AppendFlow.{AppendFlow}
use Rattle.plan_core.specs.declared.flow.Origin.{Origin}
use Rattle.plan_core.specs.declared.query.Query.{Query}
use Rattle.select_checks.specs.declared.stream.StreamSelect.{StreamSelect}
use Rattle.select_checks.specs.declared.view.ViewSelect.{ViewSelect}

-- a flow of that name over an origin
abbrev pub flow_of_select : List ℕ → Origin → StreamSelect → AppendFlow
flow_of_select name origin given = record { name = name; origin = origin; filter = given.filter; outputs = given.outputs }

-- a query of a dataset
abbrev pub query_of_select : List ℕ → ViewSelect → Query
query_of_select origin given = record { origin = origin; filter = given.filter; groups = given.groups; items = given.items }
