-- The flows of a table are told apart by their names, in a plan that the checks give.
use Rattle.std.proofs.Common.{◌≡◌, ℕ, false, List, [], ◌∷◌, ◌++◌, Option, Some, None, Ok, IfOk, refl, sym}
use Rattle.std.specs.Prelude.{nat_eq, slice_get}
use Rattle.std.specs.List.{AllByRecursion}
use Rattle.std.proofs.lemmas.Bool.{eqb-false}
use Rattle.value_core.specs.declared.schema.Column.{Column}
use Rattle.sql_tree.specs.declared.statement.Statement.{Statement}
use Rattle.plan_core.specs.declared.flow.AppendFlow.{AppendFlow}
use Rattle.plan_core.specs.declared.plan.Body.TheVariants as body
use Rattle.plan_core.specs.declared.plan.Dataset.{Dataset}
use Rattle.statement_checks.specs.Breaks.{first_break}
use Rattle.origin_checks.specs.declared.resolved.Resolved.{Resolved}
use Rattle.origin_checks.specs.Origins.{origin_as}
use Rattle.select_checks.specs.Parts.{flow_of_select}
use Rattle.dataset_checks.specs.declared.parts.DatasetParts.{DatasetParts}
use Rattle.dataset_checks.specs.declared.parts.TableFlow.{TableFlow}
use Rattle.dataset_checks.specs.Datasets.{dataset_judged}
use Rattle.dataset_checks.specs.Filling.{flow_places}
use Rattle.plan_check.specs.Checks.{Checks}
use Rattle.state_steps.specs.Steps.{flow_named}
use Rattle.plan_laws.specs.Flows.{HasFlowsApart}
use Rattle.plan_laws.proofs.Apart.{AreApart, among_all, name_itself}
use Rattle.plan_laws.proofs.FlowPlaces.{flows_unlike, places_apart}
use Rattle.plan_laws.proofs.Found.{AreUnlike, IsUnlike, all_pairs, named_found}
use Rattle.plan_laws.proofs.Judging.{HoldsByFlow, feed_holds, flow_at, flow_holds, judged_holds, table_holds, view_holds}
use Rattle.plan_laws.proofs.PlanHolds.{plan_holds}

-- ---- flows by their places

module _ (statements : List Statement) where
  -- flows have the names of the flows at places, in their order
  abbrev AreCalled : List ℕ → List AppendFlow → Type 0
  AreCalled [] [] = Unit {0}
  AreCalled [] (flow ∷ flows) = ⊥
  AreCalled (place ∷ places) [] = ⊥
  AreCalled (place ∷ places) (flow ∷ flows) = (flow_at statements place ≡ Some flow.name) × AreCalled places flows

  abbrev FlowsCalled : List ℕ → Option (List Column) → List AppendFlow → Type 0
  FlowsCalled places table flows = AreCalled places flows

  one_more : (places : List ℕ) (flows : List AppendFlow) (place : ℕ) (flow : AppendFlow) → AreCalled places flows → flow_at statements place ≡ Some flow.name → AreCalled (places ++ place ∷ []) (flows ++ flow ∷ [])
  one_more [] [] place flow all one = (one, tt)
  one_more [] (next ∷ flows) place flow all one = absurd all
  one_more (next ∷ places) [] place flow all one = absurd all
  one_more (next ∷ places) (first ∷ flows) place flow all one = (all.0, one_more places flows place flow all.1 one)

  -- ---- so each flow is found by its name

  abbrev name_of : AppendFlow → List ℕ
  name_of flow = flow.name

  unlike_others : first_break statements ≡ None → (place : ℕ) (first : AppendFlow) (places : List ℕ) (flows : List AppendFlow) → flow_at statements place ≡ Some first.name → AllByRecursion (λ other. nat_eq other place ≡ false) places →
      AreCalled places flows → AllByRecursion (IsUnlike name_of first) flows
  unlike_others none place first [] [] is apart all = tt
  unlike_others none place first [] (flow ∷ flows) is apart all = absurd all
  unlike_others none place first (other ∷ places) [] is apart all = absurd all
  unlike_others none place first (other ∷ places) (flow ∷ flows) is apart all =
      (flows_unlike statements none place other first.name flow.name (λ e. eqb-false other place apart.0 (sym e)) is all.0, unlike_others none place first places flows is apart.1 all.1)

  all_unlike : first_break statements ≡ None → (places : List ℕ) (flows : List AppendFlow) → AreApart nat_eq places → AreCalled places flows → AreUnlike name_of flows
  all_unlike none [] [] apart all = tt
  all_unlike none [] (flow ∷ flows) apart all = absurd all
  all_unlike none (place ∷ places) [] apart all = absurd all
  all_unlike none (place ∷ places) (flow ∷ flows) apart all = (unlike_others none place flow places flows all.0 apart.0 all.1, all_unlike none places flows apart.1 all.1)

  flows_apart : first_break statements ≡ None → (places : List ℕ) (flows : List AppendFlow) → AreApart nat_eq places → AreCalled places flows → HasFlowsApart (body.Append flows)
  flows_apart none places flows apart all =
      let unlike = all_unlike none places flows apart all in
      record {
        differ = all_pairs name_of flows unlike;
        found = among_all (λ (flow : AppendFlow). flow_named flows flow.name ≡ Some flow) flows (λ flow m. named_found name_of flows flow flow.name unlike m (name_itself flow.name));
      }

  -- ---- datasets

  abbrev IsFoundAt : ℕ → Dataset → Type 0
  IsFoundAt level dataset = (dataset.level ≡ level) × HasFlowsApart dataset.body

  module _ (none : first_break statements ≡ None) (resolved : List Resolved) (sofar : List Dataset) where
    by_flow : HoldsByFlow statements resolved sofar FlowsCalled (λ (made : DatasetParts). HasFlowsApart made.body)
    by_flow = record {
      flow = λ mixed places table flows place name select all at.
          flow_holds sofar (λ (made : TableFlow). AreCalled (places ++ place ∷ []) (flows ++ made.flow ∷ [])) mixed name select table (slice_get resolved place)
          (λ reads placed opens. one_more places flows place (flow_of_select name (origin_as reads) placed) all at);
      feed = λ mixed place name feed. feed_holds sofar HasFlowsApart mixed name feed (slice_get resolved place) (λ reads given opens. tt);
    }

    judged_found : (place level : ℕ) (text : List ℕ) → IfOk (dataset_judged statements resolved sofar place level text) (IsFoundAt level)
    judged_found place level text =
        judged_holds statements resolved sofar level (λ (made : DatasetParts). HasFlowsApart made.body) (IsFoundAt level) (λ name own items parts given found tested. (refl, found)) place
        (λ name items select at.
        table_holds statements resolved sofar FlowsCalled (λ (made : DatasetParts). HasFlowsApart made.body) by_flow place name items select tt
        (λ table flows all. flows_apart none (flow_places statements place name select) flows (places_apart statements place name items select at) all))
        (λ name select. view_holds sofar HasFlowsApart name select (slice_get resolved place) (λ query. tt)) text

-- ---- a plan

pub plan_flows : (statements : List Statement) (plan : List Dataset) → Checks statements (Ok plan) → AllByRecursion (λ (dataset : Dataset). HasFlowsApart dataset.body) plan
plan_flows statements plan checked =
    among_all (λ (dataset : Dataset). HasFlowsApart dataset.body) plan (λ dataset m.
    (plan_holds (λ sofar level one. IsFoundAt statements level one) statements plan checked (λ none resolved are level sofar below place text. judged_found statements none resolved sofar place level text) (λ sofar level one h. h.0) dataset m).holds.1)
