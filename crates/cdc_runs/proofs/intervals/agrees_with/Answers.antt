use Rattle.std.proofs.Common.{sym, ◌∙◌}
use Rattle.cdc_runs.proofs.CodeLemmas.{picked_more}
use Rattle.cdc_runs.proofs.intervals.agrees_with.Goals as goal

pub loop-at-preserved : goal.loop-at-preserved
loop-at-preserved c = picked_more c.args.tracked.now c.args.left.now c.args.right.now c.loop-at.at-index c.loop-at-test.true (sym c.if-not-is_same_at.ensures) ∙ c.loop-at.invariant
