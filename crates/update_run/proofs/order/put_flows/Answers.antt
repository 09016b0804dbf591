use Rattle.std.proofs.Common.{◌+◌, ◌-◌, ◌++◌, [], ◌∷◌}
use Rattle.update_run.specs.Order.{flows_from}
use Rattle.update_run.proofs.OrderLemmas.{flow_at, flows_from_more, items_more}
use Rattle.update_run.proofs.order.put_flows.Goals as goal

pub loop-flow-preserved : goal.loop-flow-preserved
loop-flow-preserved c =
    let dataset = c.args.dataset in
    let flow = c.loop-flow.flow in
    let count = c.args.count in
    items_more c.loop-flow.order.items (flow_at dataset flow ∷ []) c.push.new.self.items (flows_from dataset flow (count - flow)) (flows_from dataset (flow + 1) (count - (flow + 1)))
    (c.args.order.now.items ++ flows_from dataset 0 count) (flows_from_more dataset flow count c.loop-flow-test.true) c.in_ok-push.ensures.items c.loop-flow.invariant
