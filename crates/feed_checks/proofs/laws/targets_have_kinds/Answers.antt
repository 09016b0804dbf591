use Rattle.feed_checks.proofs.Flows.{feed_kinds}
use Rattle.feed_checks.proofs.laws.targets_have_kinds.Goals as goal

pub returns : goal.returns
returns c = feed_kinds
