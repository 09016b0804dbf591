use Rattle.std.proofs.Common.{◌≡◌, Ok}
use Rattle.dataset_checks.specs.Datasets.{dataset_with}
use Rattle.dataset_checks.proofs.datasets.dataset_filled.Goals as goal

pub returns-in-Ok : goal.returns-in-Ok
returns-in-Ok c = λ meant told.
    let e : meant ≡ Ok c.in-Ok.parts = rw c.in-Ok.is at told in
    rw e (c.numbered.ensures (dataset_with c.args.name.now c.args.items.now c.args.level c.args.text c.in-Ok.parts) c.dataset_with.ensures)
