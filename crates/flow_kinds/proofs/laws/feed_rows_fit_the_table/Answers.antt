use Rattle.flow_kinds.proofs.TargetFits.{target_fits}
use Rattle.flow_kinds.proofs.laws.feed_rows_fit_the_table.Goals as goal

pub returns : goal.returns
returns c = target_fits
