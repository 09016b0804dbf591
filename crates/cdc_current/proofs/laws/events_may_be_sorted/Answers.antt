use Rattle.cdc_current.proofs.OrderLemmas.{keeps_sorted, moments_sorted, rows_sorted}
use Rattle.cdc_current.proofs.laws.events_may_be_sorted.Goals as goal

pub returns-clause-moments : goal.returns-clause-moments
returns-clause-moments c = moments_sorted

pub returns-clause-kept : goal.returns-clause-kept
returns-clause-kept c = keeps_sorted c.stamps_take_any_order.ensures

pub returns-clause-rows : goal.returns-clause-rows
returns-clause-rows c = rows_sorted c.stamps_take_any_order.ensures c.current_rows_are_told_in_any_order.ensures
