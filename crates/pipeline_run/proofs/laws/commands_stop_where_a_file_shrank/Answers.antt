use Rattle.table_update.proofs.EndLemmas.{HasOneState}
use Rattle.pipeline_run.proofs.EndLemmas.{HasOneAnswer, stopped_where_a_file_shrank}
use Rattle.pipeline_run.proofs.laws.commands_stop_where_a_file_shrank.Goals as goal

pub returns : goal.returns
returns c =
    let law : HasOneAnswer = record { one = c.a_text_has_one_answer.ensures.read; apart = c.a_text_has_one_answer.ensures.apart; refused = c.a_text_has_one_answer.ensures.refused; checks = c.statements_have_one_answer.ensures } in
    let facts = c.a_file_has_one_state.ensures in
    let state : HasOneState = record { one = facts.one; not_foreign = facts.not_foreign; not_refused = facts.not_refused; one_place = facts.one_place; one_cause = facts.one_cause; one_end = facts.one_end } in
    stopped_where_a_file_shrank law state
