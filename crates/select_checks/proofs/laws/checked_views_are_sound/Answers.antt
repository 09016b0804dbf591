use Rattle.select_checks.proofs.ViewSound.{view_sound}
use Rattle.select_checks.proofs.laws.checked_views_are_sound.Goals as goal

pub returns : goal.returns
returns c = view_sound
