use Rattle.std.specs.Prelude.{option_copied}
use Rattle.cdc_scd2.proofs.ZoneLemmas.{last_is}
use Rattle.cdc_scd2.proofs.zone.last_of.Goals as goal

pub returns-in-Some : goal.returns-in-Some
returns-in-Some c = last_is (option_copied c.args.state) c.args.rows.now c.in-Some.row.now c.in-Some.ensures.item.3.0 c.in-Some.ensures.item.3.1
