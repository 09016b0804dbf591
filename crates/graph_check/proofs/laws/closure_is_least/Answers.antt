use Rattle.graph_check.proofs.LawLemmas.{least}
use Rattle.graph_check.proofs.laws.closure_is_least.Goals as goal

pub returns : goal.returns
returns c = least
