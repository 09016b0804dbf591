use Rattle.pipeline_run.proofs.EndLemmas.{HasOneAnswer, one_table, asks_for_one, asks_for_none}
use Rattle.pipeline_run.proofs.laws.a_text_asks_for_one_table.Goals as goal

pub returns : goal.returns
returns c =
    let law : HasOneAnswer = record { one = c.a_text_has_one_answer.ensures.read; apart = c.a_text_has_one_answer.ensures.apart; refused = c.a_text_has_one_answer.ensures.refused; checks = c.statements_have_one_answer.ensures } in
    record { one = one_table law; table = asks_for_one law; none = asks_for_none law }
