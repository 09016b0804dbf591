use Rattle.plan_answers.proofs.OneAnswer.{no_memory}
use Rattle.plan_answers.proofs.laws.checks_give_no_memory.Goals as goal

pub returns : goal.returns
returns c = no_memory
