use Rattle.dataset_checks.proofs.appending.flow_from.Goals as goal

pub returns : goal.returns
returns c = rw c.in_ok-source.ensures at c.selected_flow.ensures
