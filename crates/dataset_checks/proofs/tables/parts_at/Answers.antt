use Rattle.std.specs.Option.{option_copied}
use Rattle.dataset_checks.specs.Tables.{parts_if_there}
use Rattle.dataset_checks.proofs.tables.parts_at.Goals as goal

pub returns : goal.returns
returns c =
    rw (c.at.ensures, c.at-2.ensures) at
    (c.numbered.ensures (parts_if_there c.args.mixed (option_copied c.args.table) c.args.sofar.now (option_copied c.at.result) (option_copied c.at-2.result)) c.parts_if_there.ensures)
