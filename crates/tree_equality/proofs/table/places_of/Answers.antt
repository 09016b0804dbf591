use Rattle.std.proofs.Common.{Vec, ℕ, Global}
use Rattle.tree_equality.proofs.Placing.{placed_more}
use Rattle.tree_equality.proofs.table.places_of.Goals as goal

pub loop-place-preserved : goal.loop-place-preserved
loop-place-preserved c =
    placed_more (λ (key : Vec ℕ Global). key.items) c.loop-place.places.entries c.put_tree.new.places.entries c.args.trees.now c.loop-place.place c.index-trees-place.result
    c.loop-place-test.true c.index-trees-place.is c.in_ok-put_tree.ensures c.loop-place.invariant
