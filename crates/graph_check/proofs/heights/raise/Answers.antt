use Rattle.std.proofs.Common.{ℕ, get_or}
use Rattle.std.proofs.lemmas.List.{get_or_default}
use Rattle.graph_check.proofs.RoundLemmas.{raising_more, raising_all}
use Rattle.graph_check.proofs.heights.raise.Goals as goal

pub loop-edge-preserved : goal.loop-edge-preserved
loop-edge-preserved c =
    let edge : ℕ × ℕ = get_or c.args.edges.now c.loop-edge.edge-index (0, 0) in
    raising_more c.args.count c.args.edges.now c.args.round c.loop-edge.edge-index c.loop-edge.heights c.raise_reader.new.heights edge c.requires.within c.loop-edge-test.true (get_or_default c.args.edges.now c.loop-edge.edge-index (0, 0) edge c.loop-edge-test.true) c.raise_reader.ensures.raised c.raise_reader.ensures.kept c.loop-edge.invariant

pub returns-clause-after : goal.returns-clause-after
returns-clause-after c = raising_all c.args.count c.args.edges.now c.args.round c.loop-edge.edge-index c.loop-edge.heights c.loop-edge-test.false c.loop-edge.invariant
