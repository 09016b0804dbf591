use Rattle.landing_history.proofs.ReadingLemmas.{reading_adds}
use Rattle.landing_history.proofs.laws.a_reading_adds_its_lines.Goals as goal

pub returns : goal.returns
returns c = reading_adds
