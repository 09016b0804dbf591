use Rattle.store_tables.proofs.MemberLemmas.{none-next}
use Rattle.store_tables.proofs.members.no_rests.Goals as goal

pub loop-part-preserved : goal.loop-part-preserved
loop-part-preserved c =
    none-next c.loop-part.rests.items c.push.new.self.items c.args.parts.now c.loop-part._part-index c._part-item.result c.loop-part-test.true c._part-item.is c.loop-part.invariant c.in_ok-push.ensures.items
