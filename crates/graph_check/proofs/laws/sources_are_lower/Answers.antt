use Rattle.graph_check.proofs.LawLemmas.{lower}
use Rattle.graph_check.proofs.laws.sources_are_lower.Goals as goal

pub returns : goal.returns
returns c = lower
