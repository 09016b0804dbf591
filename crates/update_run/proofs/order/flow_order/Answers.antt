use Rattle.std.proofs.Common.{◌≡◌, ◌++◌, ◌+◌, ◌-◌, ◌<◌, ◌≤◌, List, ◌∙◌, ap, sym, subst, arith}
use Rattle.std.proofs.lemmas.List.{append-nil}
use Rattle.std.specs.List.{AllByRecursion}
use Rattle.flow_engine.specs.declared.flow_id.FlowId.{FlowId}
use Rattle.flow_engine.specs.Flows.{IsFlow}
use Rattle.update_run.specs.Order.{flow_order, flows_by_level, flows_of_level, levels_in}
use Rattle.update_run.proofs.OrderLemmas.{items_more, levels_end, levels_more, order_is_of_flows}
use Rattle.update_run.proofs.order.flow_order.Goals as goal

pub loop-level-preserved : goal.loop-level-preserved
loop-level-preserved c =
    let plan = c.as_slice-datasets.result.now in
    let level = c.loop-level.level in
    let count = levels_in plan in
    let below : level < count = omega (arith, c.loop-level-test.true, c.level_count-level-end.ensures.count) in
    items_more c.loop-level.order.items (flows_of_level level 0 plan) c.put_level.new.order.items (flows_by_level level (count - level) plan) (flows_by_level (level + 1) (count - (level + 1)) plan) (flow_order plan)
    (levels_more plan level count below) c.in_ok-put_level.ensures c.loop-level.invariant

pub returns-clause-flows : goal.returns-clause-flows
returns-clause-flows c =
    let plan = c.as_slice-datasets.result.now in
    let level = c.loop-level.level in
    let past : levels_in plan ≤ level = omega (arith, c.loop-level-test.false, c.level_count-level-end.ensures.count) in
    let items = c.loop-level.order.items in
    let order : items ≡ flow_order plan = sym (append-nil items) ∙ ap (λ (left : List FlowId). items ++ left) (sym (levels_end plan level (levels_in plan) past)) ∙ c.loop-level.invariant in
    let order_is : items ≡ flow_order c.args.plan.now = order ∙ ap flow_order c.as_slice-datasets.ensures in
    subst (λ (flows : List FlowId). AllByRecursion (IsFlow c.args.plan.now) flows) (sym order_is) (order_is_of_flows c.args.plan.now c.requires.appends c.requires.named)
