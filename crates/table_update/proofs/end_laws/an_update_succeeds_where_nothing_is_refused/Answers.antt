use Rattle.table_update.proofs.AlikeLemmas.{update_succeeds}
use Rattle.table_update.proofs.EndLemmas.{HasOneState}
use Rattle.table_update.proofs.end_laws.an_update_succeeds_where_nothing_is_refused.Goals as goal

pub returns : goal.returns
returns c =
    let law : HasOneState = record {
      one = c.a_file_has_one_state.ensures.one;
      not_foreign = c.a_file_has_one_state.ensures.not_foreign;
      not_refused = c.a_file_has_one_state.ensures.not_refused;
      one_place = c.a_file_has_one_state.ensures.one_place;
      one_cause = c.a_file_has_one_state.ensures.one_cause;
      one_end = c.a_file_has_one_state.ensures.one_end;
    } in
    update_succeeds law
