use Rattle.cdc_arrivals.proofs.TableLemmas.{told_in_any_order}
use Rattle.cdc_arrivals.proofs.laws.current_rows_are_told_in_any_order.Goals as goal

pub returns : goal.returns
returns c = told_in_any_order
