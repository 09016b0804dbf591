use Rattle.table_update.proofs.EndLemmas.{HasOneState, one_update_end, alike_updates}
use Rattle.table_update.proofs.end_laws.an_update_has_one_end.Goals as goal

pub returns : goal.returns
returns c =
    let law : HasOneState = record {
      one = c.a_file_has_one_state.ensures.one;
      not_foreign = c.a_file_has_one_state.ensures.not_foreign;
      not_refused = c.a_file_has_one_state.ensures.not_refused;
      one_place = c.a_file_has_one_state.ensures.one_place;
      one_cause = c.a_file_has_one_state.ensures.one_cause;
      one_end = c.a_file_has_one_state.ensures.one_end;
    } in
    record { same = one_update_end law; alike = alike_updates law }
