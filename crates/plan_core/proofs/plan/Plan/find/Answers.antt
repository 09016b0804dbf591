use Rattle.std.proofs.Common.{string_bytes, ◌∙◌}
use Rattle.plan_core.specs.Sound.{dataset_named}
use Rattle.plan_core.proofs.Names.{found}
use Rattle.plan_core.proofs.plan.Plan.find.Goals as goal

pub returns : goal.returns
returns c =
    let at = found (λ key. string_bytes key.text) c.self.inside.datasets.entries c.as_str.result.now c.self.invariant in
    let name = c.as_str.ensures in
    let plan = c.self.view_is in
    c.get.ensures.value ∙ at ∙ (λ i. dataset_named (plan i) (name i))
