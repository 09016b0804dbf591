-- The order in which the flows of a plan run.
use Rattle.std.specs.Prelude.{ℕ, zero, suc, ◌+◌, max, nat_eq, List, [], ◌∷◌, ◌++◌, if◌then◌else◌, length}
use Rattle.plan_core.specs.declared.plan.Body.{Body}
use Rattle.plan_core.specs.declared.plan.Body.TheVariants as body
use Rattle.plan_core.specs.declared.plan.Dataset.{Dataset as Part}
use Rattle.flow_engine.specs.declared.flow_id.FlowId.{FlowId}

-- how many flows fill a dataset; a change feed and a view are one
abbrev pub flows_in : Body → ℕ
flows_in (body.Append flows) = length flows
flows_in (body.Cdc cdc) = 1
flows_in (body.View query) = 1

-- so many flows of the dataset at this place, from this one on
abbrev pub flows_from : ℕ → ℕ → ℕ → List FlowId
flows_from dataset flow zero = []
flows_from dataset flow (suc more) = record { dataset = dataset; flow = flow } ∷ flows_from dataset (flow + 1) more

-- the flows of the datasets of one level, in declared order; the first dataset is at this place
abbrev pub flows_of_level : ℕ → ℕ → List Part → List FlowId
flows_of_level level place [] = []
flows_of_level level place (dataset ∷ plan) = (if nat_eq dataset.level level then flows_from place 0 (flows_in dataset.body) else []) ++ flows_of_level level (place + 1) plan

-- those of so many levels, from this one on
abbrev pub flows_by_level : ℕ → ℕ → List Part → List FlowId
flows_by_level level zero plan = []
flows_by_level level (suc more) plan = flows_of_level level 0 plan ++ flows_by_level (level + 1) more plan

-- one more than the greatest level
abbrev pub levels_in : List Part → ℕ
levels_in [] = 0
levels_in (dataset ∷ plan) = max (dataset.level + 1) (levels_in plan)

-- level by level; of one level dataset by dataset in declared order, and its flows in declared order
abbrev pub flow_order : List Part → List FlowId
flow_order plan = flows_by_level 0 (levels_in plan) plan
