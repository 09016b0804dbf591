use Rattle.std.proofs.Common.{refl}
use Rattle.landing_history.proofs.laws.nothing_is_taken_at_first.Goals as goal

pub returns : goal.returns
returns c = λ format header dir ever. refl
