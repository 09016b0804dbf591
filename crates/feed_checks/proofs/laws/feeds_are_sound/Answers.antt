use Rattle.feed_checks.proofs.Flows.{feed_sound}
use Rattle.feed_checks.proofs.laws.feeds_are_sound.Goals as goal

pub returns : goal.returns
returns c = feed_sound
