use Rattle.cdc_arrivals.proofs.TurnLemmas.{read_in_any_order}
use Rattle.cdc_arrivals.proofs.laws.a_row_is_read_in_any_order.Goals as goal

pub returns : goal.returns
returns c = read_in_any_order
