use Rattle.plan_answers.proofs.OnePath.{one_path}
use Rattle.plan_answers.proofs.laws.graphs_have_one_path.Goals as goal

pub returns : goal.returns
returns c = one_path
