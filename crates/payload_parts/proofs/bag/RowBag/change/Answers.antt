use Rattle.std.proofs.Common.{subst}
use Rattle.payload_parts.specs.Bag.{Lacks, RowsCame}
use Rattle.payload_parts.proofs.BagLemmas.{advances, refuses}
use Rattle.payload_parts.proofs.bag.RowBag.change.Goals as goal

pub returns-then-not-branch-clause-refuses : goal.returns-then-not-branch-clause-refuses
returns-then-not-branch-clause-refuses c =
    λ fails. refuses c.args.self.now.times.entries c.args.change.now (subst (Lacks c.args.self.now.times.entries) c.as_slice.ensures (c.in_ok-take_all.ensures.lacks c.if-not-branch.true))

pub returns-clause-leads : goal.returns-clause-leads
returns-clause-leads c =
    λ passes. advances c.args.self.now.times.entries c.take_all.new.self.times.entries c.put_all.new.self.times.entries c.args.change.now c.requires
    (subst (RowsCame c.take_all.new.self.times.entries c.args.self.now.times.entries) c.as_slice.ensures (c.in_ok-take_all.ensures.went c.if-not-branch.false))
    (subst (RowsCame c.take_all.new.self.times.entries c.put_all.new.self.times.entries) c.as_slice-2.ensures c.in_ok-put_all.ensures)
