use Rattle.std.proofs.Common.{sym, arith}
use Rattle.cdc_runs.proofs.ScanLemmas.{ahead_more}
use Rattle.cdc_runs.proofs.run.run_end.Goals as goal

pub loop-i-preserved : goal.loop-i-preserved
loop-i-preserved g c = ahead_more _ _ _ c.loop-i.end c.loop-i.i c.loop-i.last.now _ c.loop-i.steps _ _ c.loop-i.invariant (omega arith) c.look-next.ensures.entry c.look-next.ensures.looks (sym c.if-not-joins.ensures)
