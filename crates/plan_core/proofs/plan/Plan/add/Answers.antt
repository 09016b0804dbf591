use Rattle.std.proofs.Common.{string_bytes}
use Rattle.plan_core.proofs.Names.{free_key, named_after}
use Rattle.plan_core.proofs.plan.Plan.add.Goals as goal

pub put_last-requires : goal.put_last-requires
put_last-requires c =
    free_key (λ key. string_bytes key.text) c.free_key-key.result c.self.inside.datasets.entries c.args.self.now c.args.dataset.name
    c.self.view_is c.self.invariant c.free_key-key.ensures.free c.free_key-key.ensures.spelled

pub invariant_of-self : goal.invariant_of-self
invariant_of-self c =
    named_after (λ key. string_bytes key.text) c.free_key-key.result c.put_last.result c.self.inside.datasets.entries c.put_last.new.table.entries c.args.dataset
    c.self.invariant c.free_key-key.ensures.spelled c.put_last.ensures.given c.put_last.ensures.put c.put_last.ensures.kept
