use Rattle.std.proofs.Common.{◌-◌, sym, arith}
use Rattle.cdc_runs.proofs.ScanLemmas.{back_more, back_ends}
use Rattle.cdc_runs.proofs.run.run_start.Goals as goal

pub returns-then-not-joins-clause-run : goal.returns-then-not-joins-clause-run
returns-then-not-joins-clause-run g c = back_ends c.args.tracked.now c.args.history.now c.loop-start.start c.args.place (c.loop-start.start - 1) c.loop-start.first.now c.look-before.result.now c.loop-start.steps c.args.steps.now c.loop-start.invariant (omega arith) c.look-before.ensures.entry (sym c.if-not-joins.ensures)

pub loop-start-preserved : goal.loop-start-preserved
loop-start-preserved g c = back_more c.args.tracked.now c.args.history.now c.loop-start.start c.args.place (c.loop-start.start - 1) c.loop-start.first.now c.look-before.result.now c.loop-start.steps c.look-before.new.steps c.args.steps.now c.loop-start.invariant (omega arith) c.look-before.ensures.entry c.look-before.ensures.looks (sym c.if-not-joins.ensures)
