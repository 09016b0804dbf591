use Rattle.std.proofs.Common.{ap, ◌∙◌}
use Rattle.value_core.specs.Bags.{in_row_order}
use Rattle.view_query.proofs.AskLemmas.{sorted_is}
use Rattle.view_query.proofs.order.in_order.Goals as goal

pub returns : goal.returns
returns c = c.from_vec.ensures ∙ sorted_is c.into_vec-sorted.result.items c.sort.new.self.items c.sort.ensures.permutation c.in_ok-sort.ensures.sorted ∙ ap in_row_order c.into_vec-sorted.ensures
