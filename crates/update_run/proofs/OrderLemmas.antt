-- The flows of a plan in their order: one more, and each is a flow of the plan.
use Rattle.std.proofs.Common.{◌≡◌, ℕ, zero, suc, ◌+◌, ◌-◌, ◌<◌, ◌≤◌, List, [], ◌∷◌, ◌++◌, length, get_or, Bool, true, false, cond, Some, refl, sym, ◌∙◌, ap, subst, append_assoc, arith}
use Rattle.std.specs.Prelude.{nat_eq, slice_get, IsTrue}
use Rattle.std.specs.List.{AllByRecursion}
use Rattle.std.proofs.lemmas.Option.{get_or_from_slice_get}
use Rattle.plan_core.specs.declared.flow.AppendFlow.{AppendFlow}
use Rattle.plan_core.specs.declared.plan.Body.{Body}
use Rattle.plan_core.specs.declared.plan.Body.TheVariants as body
use Rattle.plan_core.specs.declared.plan.Dataset.{Dataset as Part}
use Rattle.plan_core.specs.Sound.{is_append}
use Rattle.state_steps.specs.Steps.{flow_named}
use Rattle.store_fitness.specs.Fitness.{AreAppends}
use Rattle.flow_engine.specs.declared.flow_id.FlowId.{FlowId}
use Rattle.flow_engine.specs.Flows.{AreNamed, FlowsAreNamed, IsFlow}
use Rattle.update_run.specs.Order.{flow_order, flows_by_level, flows_from, flows_in, flows_of_level, levels_in}

-- ---- one more

abbrev pub flow_at : ℕ → ℕ → FlowId
flow_at dataset flow = record { dataset = dataset; flow = flow }

pub flows_from_more : (dataset flow count : ℕ) → flow < count → flows_from dataset flow (count - flow) ≡ flow_at dataset flow ∷ flows_from dataset (flow + 1) (count - (flow + 1))
flows_from_more dataset flow count below =
    let more : count - flow ≡ suc (count - (flow + 1)) = omega arith in
    ap (λ n. flows_from dataset flow n) more

pub flows_from_end : (dataset flow count : ℕ) → count ≤ flow → flows_from dataset flow (count - flow) ≡ []
flows_from_end dataset flow count past =
    let none : count - flow ≡ 0 = omega arith in
    ap (λ n. flows_from dataset flow n) none

pub levels_more : (plan : List Part) (level count : ℕ) → level < count → flows_by_level level (count - level) plan ≡ flows_of_level level 0 plan ++ flows_by_level (level + 1) (count - (level + 1)) plan
levels_more plan level count below =
    let more : count - level ≡ suc (count - (level + 1)) = omega arith in
    ap (λ n. flows_by_level level n plan) more

pub levels_end : (plan : List Part) (level count : ℕ) → count ≤ level → flows_by_level level (count - level) plan ≡ []
levels_end plan level count past =
    let none : count - level ≡ 0 = omega arith in
    ap (λ n. flows_by_level level n plan) none

-- what came behind the items so far is what was left before the rest
pub items_more : {X : Type 0} (so_far more new left rest whole : List X) → left ≡ more ++ rest → new ≡ so_far ++ more → so_far ++ left ≡ whole → new ++ rest ≡ whole
items_more so_far more new left rest whole parts grown all =
    ap (λ xs. xs ++ rest) grown ∙ append_assoc so_far more rest ∙ ap (λ xs. so_far ++ xs) (sym parts) ∙ all

-- ---- each is a flow of the plan

all_at : {X : Type 0} (P : X → Type 0) (xs : List X) (i : ℕ) → AllByRecursion P xs → i < length xs → (x : X) × (slice_get xs i ≡ Some x) × P x
all_at P [] i all below = absurd (omega arith)
all_at P (x ∷ xs) zero all below = (x, refl, all.0)
all_at P (x ∷ xs) (suc i) all below = all_at P xs i all.1 (omega arith)

pub read_at : {X : Type 0} (P : X → Type 0) (xs : List X) (i : ℕ) (d : X) → AllByRecursion P xs → i < length xs → P (get_or xs i d)
read_at P xs i d all below = let found = all_at P xs i all below in subst P (sym (get_or_from_slice_get xs i found.0 d found.1)) found.2

all_both : {X : Type 0} (P : X → Type 0) (xs ys : List X) → AllByRecursion P xs → AllByRecursion P ys → AllByRecursion P (xs ++ ys)
all_both P [] ys one more = more
all_both P (x ∷ xs) ys one more = (one.0, all_both P xs ys one.1 more)

all_if : {X : Type 0} (P : X → Type 0) (test : Bool) (xs : List X) → AllByRecursion P xs → AllByRecursion P (cond test xs [])
all_if P true xs all = all
all_if P false xs all = tt

module _ (plan : List Part) where
  flows_are : (place : ℕ) (dataset : Part) (flows : List AppendFlow) → slice_get plan place ≡ Some dataset → dataset.body ≡ body.Append flows → AreNamed (body.Append flows)
      → (from more : ℕ) → from + more ≡ length flows → AllByRecursion (IsFlow plan) (flows_from place from more)
  flows_are place dataset flows found appends named from zero parts = tt
  flows_are place dataset flows found appends named from (suc more) parts =
      let within : from < length flows = omega arith in
      let flow = all_at (λ (f : AppendFlow). flow_named flows f.name ≡ Some f) flows from named within in (
        record {
          dataset = dataset;
          flow = flow.0;
          is = record { flows = flows; dataset_is = found; appends = appends; flow_is = flow.1; named = flow.2 };
        },
        flows_are place dataset flows found appends named (from + 1) more (omega arith),
      )

  table_are : (place : ℕ) (dataset : Part) (fills : Body) → dataset.body ≡ fills → IsTrue (is_append fills) → AreNamed fills → slice_get plan place ≡ Some dataset → AllByRecursion (IsFlow plan) (flows_from place 0 (flows_in fills))
  table_are place dataset (body.Append flows) is appends named found = flows_are place dataset flows found is named 0 (length flows) (omega arith)
  table_are place dataset (body.Cdc cdc) is appends named found = absurd (cc appends)
  table_are place dataset (body.View query) is appends named found = absurd (cc appends)

  -- what stands in a rest of the plan stands in the plan, so many places later
  abbrev IsRest : ℕ → List Part → Type 0
  IsRest place rest = (i : ℕ) (dataset : Part) → slice_get rest i ≡ Some dataset → slice_get plan (place + i) ≡ Some dataset

  level_are : (level place : ℕ) (rest : List Part) → IsRest place rest → AreAppends rest → FlowsAreNamed rest → AllByRecursion (IsFlow plan) (flows_of_level level place rest)
  level_are level place [] is appends named = tt
  level_are level place (dataset ∷ rest) is appends named =
      let here : slice_get plan place ≡ Some dataset = subst (λ (at : ℕ). slice_get plan at ≡ Some dataset) (omega arith) (is 0 dataset refl) in
      all_both (IsFlow plan) (cond (nat_eq dataset.level level) (flows_from place 0 (flows_in dataset.body)) []) (flows_of_level level (place + 1) rest)
      (all_if (IsFlow plan) (nat_eq dataset.level level) (flows_from place 0 (flows_in dataset.body)) (table_are place dataset dataset.body refl appends.0 named.0 here))
      (level_are level (place + 1) rest (λ i other found. subst (λ (at : ℕ). slice_get plan at ≡ Some other) (omega arith) (is (suc i) other found)) appends.1 named.1)

  levels_are : (level more : ℕ) → AreAppends plan → FlowsAreNamed plan → AllByRecursion (IsFlow plan) (flows_by_level level more plan)
  levels_are level zero appends named = tt
  levels_are level (suc more) appends named =
      all_both (IsFlow plan) (flows_of_level level 0 plan) (flows_by_level (level + 1) more plan)
      (level_are level 0 plan (λ i dataset found. subst (λ (at : ℕ). slice_get plan at ≡ Some dataset) (omega arith) found) appends named)
      (levels_are (level + 1) more appends named)

  pub order_is_of_flows : AreAppends plan → FlowsAreNamed plan → AllByRecursion (IsFlow plan) (flow_order plan)
  order_is_of_flows appends named = levels_are 0 (levels_in plan) appends named
