use Rattle.type_check.proofs.Plans.{checked_sound}
use Rattle.type_check.proofs.laws.checked_plans_are_sound.Goals as goal

pub returns : goal.returns
returns c = checked_sound
