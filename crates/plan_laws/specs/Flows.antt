-- Flows that are told apart by their names.
use Rattle.std.specs.Prelude.{◌≡◌, ⊤, List, Some, AllPairs, IsTrue, not}
use Rattle.std.specs.List.{AllByRecursion}
use Rattle.value_core.specs.NameFold.{same_name}
use Rattle.plan_core.specs.declared.flow.AppendFlow.{AppendFlow}
use Rattle.plan_core.specs.declared.plan.Body.{Body}
use Rattle.plan_core.specs.declared.plan.Body.TheVariants as body
use Rattle.state_steps.specs.Steps.{flow_named}

-- the names of these flows differ, and so each flow is the one that its name finds
pub record AreToldApart (flows : List AppendFlow) : Type 0 where
  pub differ : AllPairs (λ a b. IsTrue (not (same_name a.name b.name))) flows
  pub found : AllByRecursion (λ flow. flow_named flows flow.name ≡ Some flow) flows

-- so it is of the flows of a table that only gains rows; other datasets have one flow at most
abbrev pub HasFlowsApart : Body → Type 0
HasFlowsApart (body.Append flows) = AreToldApart flows
HasFlowsApart (body.Cdc cdc) = ⊤
HasFlowsApart (body.View query) = ⊤
