use Rattle.std.specs.Option.{option_copied}
use Rattle.dataset_checks.specs.Appending.{flow_by}
use Rattle.dataset_checks.proofs.tables.own_parts.Goals as goal

pub returns-in-Some : goal.returns-in-Some
returns-in-Some c =
    rw c.in-Some.is
    (c.appends.ensures (flow_by c.args.mixed c.args.name.now c.in-Some.select (option_copied c.args.table) c.args.sofar.now (option_copied c.args.resolved)) c.flow_by.ensures)
