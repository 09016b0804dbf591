use Rattle.landing_history.proofs.HistoryLemmas.{all_found, places_end, places_up}
use Rattle.landing_history.proofs.laws.readings_find_what_is_taken.Goals as goal

pub returns-clause-found : goal.returns-clause-found
returns-clause-found c = all_found

pub returns-clause-ends : goal.returns-clause-ends
returns-clause-ends c = places_end

pub returns-clause-ascending : goal.returns-clause-ascending
returns-clause-ascending c = places_up
