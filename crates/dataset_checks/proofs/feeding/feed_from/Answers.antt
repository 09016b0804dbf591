use Rattle.dataset_checks.proofs.feeding.feed_from.Goals as goal

pub returns : goal.returns
returns c = rw c.in_ok-source.ensures at c.fed.ensures
