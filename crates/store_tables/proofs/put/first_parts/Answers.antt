use Rattle.store_tables.proofs.PartLemmas.{sides-next}
use Rattle.store_tables.proofs.put.first_parts.Goals as goal

pub loop-definition-preserved : goal.loop-definition-preserved
loop-definition-preserved c =
    sides-next c.args.list.now c.loop-definition.parts.items c.loop-definition.definition-index c.definition-item.result c.in_ok-new.field-0 c.push.new.self.items c.loop-definition-test.true c.definition-item.is c.loop-definition.invariant c.in_ok-new.ensures c.in_ok-push.ensures.items
