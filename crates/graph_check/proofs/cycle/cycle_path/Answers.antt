use Rattle.std.proofs.Common.{◌≡◌, ◌≢◌, ◌<◌, ◌++◌, ◌∷◌, [], ℕ, length, get_or, ap, sym, subst, arith}
use Rattle.std.proofs.lemmas.List.{length_push}
use Rattle.graph_check.proofs.CycleLemmas.{IsWalked, walked_more, walked_room}
use Rattle.graph_check.proofs.cycle.cycle_path.Goals as goal

pub walk-smaller : goal.walk-smaller
walk-smaller c =
    let fresh : (k : ℕ) → k < length c.walk.trail.items → get_or c.walk.trail.items k 0 ≢ c.walk.node = subst (λ xs. (k : ℕ) → k < length xs → get_or xs k 0 ≢ c.walk.node) c.as_slice.ensures.value c.in_default.ensures.none in
    let room : length c.walk.trail.items < c.args.count = walked_room c.args.count c.args.edges.now c.walk.trail.items c.walk.node fresh c.walk.invariant in
    let longer : length c.push.new.self.items ≡ length (c.walk.trail.items ++ c.walk.node ∷ []) = ap length c.in_ok-push.ensures.items in
    omega (arith, room, longer, length_push c.walk.trail.items c.walk.node)

pub walk-preserved : goal.walk-preserved
walk-preserved c =
    let fresh : (k : ℕ) → k < length c.walk.trail.items → get_or c.walk.trail.items k 0 ≢ c.walk.node = subst (λ xs. (k : ℕ) → k < length xs → get_or xs k 0 ≢ c.walk.node) c.as_slice.ensures.value c.in_default.ensures.none in
    subst (λ xs. IsWalked c.args.count c.args.edges.now xs c.next_of-node.result) (sym c.in_ok-push.ensures.items) (walked_more c.args.count c.args.edges.now c.walk.trail.items c.walk.node c.next_of-node.result fresh c.next_of-node.ensures.below c.next_of-node.ensures.next c.walk.invariant)
