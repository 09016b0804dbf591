use Rattle.landing_history.proofs.HistoryLemmas.{one_bag}
use Rattle.landing_history.proofs.laws.order_of_lines_changes_no_bag.Goals as goal

pub returns : goal.returns
returns c = one_bag
