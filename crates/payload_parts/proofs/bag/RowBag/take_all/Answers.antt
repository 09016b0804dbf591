use Rattle.payload_parts.proofs.BagLemmas.{one_lacks}
use Rattle.payload_parts.proofs.bag.RowBag.take_all.Goals as goal

pub returns-then-not-branch-clause-lacks : goal.returns-then-not-branch-clause-lacks
returns-then-not-branch-clause-lacks c =
    λ fails. one_lacks c.args.self.now.times.entries c.loop-row.self.times.entries c.args.rows.now c.loop-row.row-index c.row-item.result c.loop-row-test.true c.row-item.is (c.in_ok-take.ensures.lacks c.if-not-branch.true) c.loop-row.invariant
