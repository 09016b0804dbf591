-- How many looks at stored rows a flow may take.
use Rattle.std.specs.Prelude.{ℕ}
use Rattle.std.specs.Option.{option_and_then}
use Rattle.plan_core.specs.declared.flow.AppendFlow.{AppendFlow}
use Rattle.plan_core.specs.declared.plan.Dataset.{Dataset as Part}
use Rattle.state_model.specs.Dataset.{State, cursor_of, dataset_of}
use Rattle.flow_news.specs.Looks.{cursor_looks}

-- by where the flow stands
abbrev pub flow_looks : State → Part → AppendFlow → ℕ
flow_looks state part flow = cursor_looks state flow.origin (option_and_then (λ target. cursor_of target flow.name) (dataset_of state part.name))
