use Rattle.cdc_histories.proofs.SortLemmas.{sorted_is}
use Rattle.cdc_histories.proofs.building.sort.Goals as goal

pub returns : goal.returns
returns c = sorted_is c.args.rows.now.items c.sort_unstable.new.self.items c.sort_unstable.ensures.sorted c.sort_unstable.ensures.permutation
