use Rattle.table_update.proofs.EndLemmas.{HasOneState}
use Rattle.pipeline_run.proofs.UnfitLemmas.{HasOneTable, standing_never_unfit}
use Rattle.pipeline_run.proofs.laws.a_store_that_stands_is_never_unfit.Goals as goal

pub returns : goal.returns
returns c =
    let tables : HasOneTable = record { apart = c.a_reading_has_one_print.ensures.apart; checks = c.statements_have_one_answer.ensures } in
    let facts = c.a_file_has_one_state.ensures in
    let law : HasOneState = record { one = facts.one; not_foreign = facts.not_foreign; not_refused = facts.not_refused; one_place = facts.one_place; one_cause = facts.one_cause; one_end = facts.one_end } in
    standing_never_unfit tables law
