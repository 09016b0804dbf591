use Rattle.store_core.proofs.ReachLemmas.{one_end}
use Rattle.store_core.proofs.StateLemmas.{one_state, not_foreign, not_refused, one_place, refused_not_dead}
use Rattle.store_core.proofs.laws.a_file_has_one_state.Goals as goal

pub returns-clause-one : goal.returns-clause-one
returns-clause-one c = one_state

pub returns-clause-not_foreign : goal.returns-clause-not_foreign
returns-clause-not_foreign c = not_foreign

pub returns-clause-not_refused : goal.returns-clause-not_refused
returns-clause-not_refused c = not_refused

pub returns-clause-one_place : goal.returns-clause-one_place
returns-clause-one_place c = one_place

pub returns-clause-one_cause : goal.returns-clause-one_cause
returns-clause-one_cause c = λ at len bytes refused foreign. refused_not_dead at bytes refused foreign.0

pub returns-clause-one_end : goal.returns-clause-one_end
returns-clause-one_end c = one_end
