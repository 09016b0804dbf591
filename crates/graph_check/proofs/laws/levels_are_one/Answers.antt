use Rattle.graph_check.proofs.LawLemmas.{one_list}
use Rattle.graph_check.proofs.laws.levels_are_one.Goals as goal

pub returns : goal.returns
returns c = one_list
