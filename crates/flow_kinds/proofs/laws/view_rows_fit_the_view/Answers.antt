use Rattle.flow_kinds.proofs.ViewFits.{view_fits}
use Rattle.flow_kinds.proofs.laws.view_rows_fit_the_view.Goals as goal

pub returns : goal.returns
returns c = view_fits
