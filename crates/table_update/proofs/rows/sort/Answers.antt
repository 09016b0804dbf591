use Rattle.table_update.proofs.RowLemmas.{permuted_fit, sorted_is}
use Rattle.table_update.proofs.rows.sort.Goals as goal

pub returns : goal.returns
returns c = record {
  rows = sorted_is c.args.rows.now.items c.sort_unstable.new.self.items c.sort_unstable.ensures.sorted c.sort_unstable.ensures.permutation;
  fits = λ columns fit. permuted_fit columns c.args.rows.now.items c.sort_unstable.new.self.items c.sort_unstable.ensures.permutation fit;
}
