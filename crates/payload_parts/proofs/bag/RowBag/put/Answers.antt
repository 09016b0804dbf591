use Rattle.std.proofs.Common.{rules}
use Rattle.payload_parts.proofs.BagLemmas.{row_came}
use Rattle.payload_parts.proofs.bag.RowBag.put.Goals as goal

pub returns : goal.returns
returns c = row_came c.args.self.now.times.entries c.insert.new.self.entries c.args.row.now c.unwrap_or-held.result (search rules) (search rules)
