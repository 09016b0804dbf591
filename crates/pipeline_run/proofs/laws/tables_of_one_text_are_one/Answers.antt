use Rattle.pipeline_run.proofs.UnfitLemmas.{HasOneTable, tables_are_one}
use Rattle.pipeline_run.proofs.laws.tables_of_one_text_are_one.Goals as goal

pub returns : goal.returns
returns c =
    let tables : HasOneTable = record { apart = c.a_reading_has_one_print.ensures.apart; checks = c.statements_have_one_answer.ensures } in
    tables_are_one tables
