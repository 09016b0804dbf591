use Rattle.store_fitness.proofs.AnswerLemmas.{one_answer}
use Rattle.store_fitness.proofs.laws.a_store_has_one_answer.Goals as goal

pub returns : goal.returns
returns c = one_answer
