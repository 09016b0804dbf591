use Rattle.std.proofs.Common.{refl}
use Rattle.value_core.proofs.WalkLemmas.{change_by_parts}
use Rattle.value_core.proofs.change.is_change.Goals as goal

pub returns : goal.returns
returns c =
    change_by_parts c.are_apart.result c.args.removed.now c.args.added.now c.as_slice.result.now c.as_slice-2.result.now (c.if-not-is_in_order.ensures.0 refl) (c.if-not-is_in_order-2.ensures.0 refl) c.as_slice.ensures c.as_slice-2.ensures c.are_apart.ensures
