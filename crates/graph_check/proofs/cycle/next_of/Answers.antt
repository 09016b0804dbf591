use Rattle.std.proofs.Common.{ℕ, get_or}
use Rattle.std.proofs.lemmas.List.{get_or_default}
use Rattle.graph_check.proofs.CycleLemmas.{have_levels_more, have_levels_all}
use Rattle.graph_check.proofs.cycle.next_of.Goals as goal

pub loop-edge-preserved : goal.loop-edge-preserved
loop-edge-preserved c =
    let edge : ℕ × ℕ = get_or c.args.edges.now c.loop-edge.edge-index (0, 0) in
    have_levels_more c.args.count c.args.edges.now c.args.heights.now c.args.node c.loop-edge.edge-index edge c.requires.within c.requires.shown c.loop-edge-test.true (get_or_default c.args.edges.now c.loop-edge.edge-index (0, 0) edge c.loop-edge-test.true) (λ both. cc (c.leads_on.ensures.1 both, c.if-leads_on.false)) c.loop-edge.invariant

pub unreachable-requires : goal.unreachable-requires
unreachable-requires c = c.requires.no_level (have_levels_all c.args.edges.now c.args.node c.loop-edge.edge-index c.loop-edge-test.false c.loop-edge.invariant)
