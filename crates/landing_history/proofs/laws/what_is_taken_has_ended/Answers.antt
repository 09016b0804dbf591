use Rattle.landing_history.proofs.LineCuts.{front_lines}
use Rattle.landing_history.proofs.laws.what_is_taken_has_ended.Goals as goal

pub returns : goal.returns
returns c = front_lines
