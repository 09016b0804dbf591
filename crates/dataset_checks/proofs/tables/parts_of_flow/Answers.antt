use Rattle.std.specs.Option.{option_copied}
use Rattle.dataset_checks.specs.Appending.{flow_by}
use Rattle.dataset_checks.specs.Feeding.{feed_by}
use Rattle.dataset_checks.proofs.tables.parts_of_flow.Goals as goal

pub returns-in-Insert : goal.returns-in-Insert
returns-in-Insert c =
    rw c.in-Insert.is
    (c.appends.ensures (flow_by c.args.mixed c.in-Insert.flow c.in-Insert.select (option_copied c.args.table) c.args.sofar.now (option_copied c.args.resolved)) c.flow_by.ensures)

pub returns-in-Cdc : goal.returns-in-Cdc
returns-in-Cdc c =
    rw c.in-Cdc.is (c.keeps.ensures (feed_by c.args.mixed c.in-Cdc.flow c.in-Cdc.rest c.args.sofar.now (option_copied c.args.resolved)) c.feed_by.ensures)
