use Rattle.landing_history.proofs.WholeReadings.{whole_reach}
use Rattle.landing_history.proofs.laws.reach_is_that_of_a_first_reading.Goals as goal

pub returns : goal.returns
returns c = whole_reach
