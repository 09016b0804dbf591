use Rattle.pipeline_run.proofs.EndLemmas.{HasOneAnswer, ok_where_nothing_is_refused}
use Rattle.pipeline_run.proofs.laws.commands_succeed_where_nothing_is_refused.Goals as goal

pub returns : goal.returns
returns c =
    let law : HasOneAnswer = record { one = c.a_text_has_one_answer.ensures.read; apart = c.a_text_has_one_answer.ensures.apart; refused = c.a_text_has_one_answer.ensures.refused; checks = c.statements_have_one_answer.ensures } in
    ok_where_nothing_is_refused law c.an_update_succeeds_where_nothing_is_refused.ensures
