use Rattle.std.proofs.Common.{◌∙◌}
use Rattle.value_core.specs.Bags.{net_change}
use Rattle.net_changes.proofs.NetLemmas.{net_same}
use Rattle.net_changes.proofs.merge.net.Goals as goal

pub returns : goal.returns
returns c = c.in_ok-change.ensures ∙ (λ i. net_change (c.as_slice.ensures i) (c.as_slice-2.ensures i))
    ∙ net_same c.args.old c.args.new c.in_ok-left.left c.in_ok-right.right c.in_ok-left.ensures.held c.in_ok-right.ensures.held
