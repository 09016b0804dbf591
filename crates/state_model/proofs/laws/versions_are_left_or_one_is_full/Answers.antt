use Rattle.state_model.proofs.LimitLemmas.{never_both, within_or_full}
use Rattle.state_model.proofs.laws.versions_are_left_or_one_is_full.Goals as goal

pub returns : goal.returns
returns c = record { either = within_or_full; not_both = never_both }
