use Rattle.select_checks.proofs.StreamSound.{stream_sound}
use Rattle.select_checks.proofs.laws.checked_streams_are_sound.Goals as goal

pub returns : goal.returns
returns c = stream_sound
