use Rattle.pipeline_run.proofs.EndLemmas.{HasOneAnswer, ok_where_no_check_is_broken}
use Rattle.pipeline_run.proofs.laws.validates_succeed_where_no_check_is_broken.Goals as goal

pub returns : goal.returns
returns c =
    let law : HasOneAnswer = record { one = c.a_text_has_one_answer.ensures.read; apart = c.a_text_has_one_answer.ensures.apart; refused = c.a_text_has_one_answer.ensures.refused; checks = c.statements_have_one_answer.ensures } in
    ok_where_no_check_is_broken law
