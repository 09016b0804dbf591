use Rattle.pipeline_run.proofs.EndLemmas.{HasOneAnswer, HasOneEnd, one_end}
use Rattle.pipeline_run.proofs.laws.a_run_has_one_end.Goals as goal

pub returns : goal.returns
returns c =
    let law : HasOneAnswer = record { one = c.a_text_has_one_answer.ensures.read; apart = c.a_text_has_one_answer.ensures.apart; refused = c.a_text_has_one_answer.ensures.refused; checks = c.statements_have_one_answer.ensures } in
    let one : HasOneEnd = record {
      same = c.an_update_has_one_end.ensures.same;
      alike = c.an_update_has_one_end.ensures.alike;
      settled = c.settled_files_are_alike.ensures.same;
      settled_alike = c.settled_files_are_alike.ensures.alike;
    } in
    one_end law one
