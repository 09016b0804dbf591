use Rattle.cdc_histories.proofs.FoldLemmas.{rows_told}
use Rattle.cdc_histories.proofs.folding.rows_of.Goals as goal

pub returns : goal.returns
returns c = rows_told c.args.tracked.now c.args.entries.now c.new-rows.result c.end_runs.new.rows c.new-rows.ensures c.in_ok-_open.ensures.rows
