use Rattle.landing_history.proofs.WholeReadings.{one_form}
use Rattle.landing_history.proofs.laws.places_have_one_form.Goals as goal

pub returns : goal.returns
returns c = one_form
