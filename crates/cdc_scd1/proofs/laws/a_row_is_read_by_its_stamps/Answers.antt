use Rattle.cdc_scd1.proofs.ToldRows.{read}
use Rattle.cdc_scd1.proofs.laws.a_row_is_read_by_its_stamps.Goals as goal

pub returns : goal.returns
returns c = read
