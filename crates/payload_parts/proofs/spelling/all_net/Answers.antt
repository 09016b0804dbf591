use Rattle.std.proofs.Common.{false, refl}
use Rattle.std.specs.Prelude.{IsTrue}
use Rattle.value_core.specs.Changes.{IsChange}
use Rattle.commit_payloads.proofs.StateLemmas.{passes_by, stops_at}
use Rattle.payload_parts.proofs.spelling.all_net.Goals as goal

pub returns-then-not-is_net : goal.returns-then-not-is_net
returns-then-not-is_net c = (
  λ is. absurd (let wrong : IsTrue false = is in cc),
  λ all. absurd (stops_at IsChange c.args.changes.now c.loop-change.change-index c.change-item.result c.loop-change-test.true c.change-item.is
      (λ is. let wrong : IsTrue false = c.if-not-is_net.ensures.1 is in cc) c.loop-change.invariant all),
)

pub loop-change-preserved : goal.loop-change-preserved
loop-change-preserved c =
    passes_by IsChange c.args.changes.now c.loop-change.change-index c.change-item.result c.loop-change-test.true c.change-item.is (c.if-not-is_net.ensures.0 refl) c.loop-change.invariant
