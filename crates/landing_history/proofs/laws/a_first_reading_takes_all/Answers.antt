use Rattle.landing_history.proofs.FirstReading.{first_takes_all}
use Rattle.landing_history.proofs.laws.a_first_reading_takes_all.Goals as goal

pub returns : goal.returns
returns c = first_takes_all
