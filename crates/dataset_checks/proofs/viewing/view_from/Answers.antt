use Rattle.dataset_checks.proofs.viewing.view_from.Goals as goal

pub returns : goal.returns
returns c = rw c.in_ok-source.ensures at c.viewed.ensures
