use Rattle.std.proofs.Common.{rules}
use Rattle.view_groups.proofs.CountLemmas.{counts_more}
use Rattle.view_groups.proofs.bag.ValueBag.add.Goals as goal

pub returns : goal.returns
returns c = counts_more c.args.self.now.times.entries c.insert.new.self.entries c.args.value c.unwrap_or-held.result (search rules) (search rules)
