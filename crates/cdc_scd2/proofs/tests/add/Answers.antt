use Rattle.cdc_scd2.proofs.PlaceLemmas.{absent_between}
use Rattle.cdc_scd2.proofs.tests.add.Goals as goal

pub splice-requires-clause-absent : goal.splice-requires-clause-absent
splice-requires-clause-absent g c = absent_between c.in_ok-event.event.sequence c.args.history.now c.in-Between._i c.in-Between.ensures.place.1 c.in-Between.ensures.place.2
