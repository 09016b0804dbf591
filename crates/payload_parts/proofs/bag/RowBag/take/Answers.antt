use Rattle.std.proofs.Common.{◌≡◌, ◌-◌, arith, rules}
use Rattle.payload_parts.specs.Bag.{times_of}
use Rattle.payload_parts.proofs.BagLemmas.{row_went}
use Rattle.payload_parts.proofs.bag.RowBag.take.Goals as goal

pub returns-clause-went : goal.returns-clause-went
returns-clause-went c =
    λ is. row_went c.args.self.now.times.entries c.insert.new.self.entries c.args.row.now (c.unwrap_or-held.result - 1) (let held : c.unwrap_or-held.result ≡ times_of c.args.self.now.times.entries c.args.row.now = search rules in omega arith) (search rules)
