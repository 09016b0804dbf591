use Rattle.plan_laws.proofs.FlowNames.{plan_flows}
use Rattle.plan_laws.proofs.laws.flows_of_checked_plans_differ.Goals as goal

pub returns : goal.returns
returns c = plan_flows
