use Rattle.cdc_arrivals.proofs.StampLemmas.{stamps_either}
use Rattle.cdc_arrivals.proofs.laws.stamps_take_any_order.Goals as goal

pub returns : goal.returns
returns c = stamps_either
