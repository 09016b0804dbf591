use Rattle.flow_kinds.proofs.AppendFits.{append_fits}
use Rattle.flow_kinds.proofs.laws.append_rows_fit_the_table.Goals as goal

pub returns : goal.returns
returns c = append_fits
