use Rattle.std.specs.Prelude.{slice_get}
use Rattle.payload_parts.proofs.WalkLemmas.{kinds_more}
use Rattle.payload_parts.proofs.events.kinds_at.Goals as goal

pub loop-at-preserved : goal.loop-at-preserved
loop-at-preserved c = kinds_more (λ at. slice_get c.args.kinds.now at) c.args.places.now c.loop-at.at-index c.loop-at.found.items c.put_kind_at.new.found.items c.loop-at-test.true c.in_ok-put_kind_at.ensures c.loop-at.invariant
