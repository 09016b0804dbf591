use Rattle.select_checks.proofs.Givens.{expectations_sound}
use Rattle.select_checks.proofs.laws.checked_expectations_are_sound.Goals as goal

pub returns : goal.returns
returns c = expectations_sound
