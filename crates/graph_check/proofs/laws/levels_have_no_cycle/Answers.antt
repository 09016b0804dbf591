use Rattle.graph_check.proofs.LawLemmas.{no_cycle}
use Rattle.graph_check.proofs.laws.levels_have_no_cycle.Goals as goal

pub returns : goal.returns
returns c = no_cycle
