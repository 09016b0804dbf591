use Rattle.std.proofs.Common.{◌≡◌, true, false, refl}
use Rattle.payload_parts.proofs.BagLemmas.{begun, goes_on, stops}
use Rattle.payload_parts.proofs.WalkLemmas.{never}
use Rattle.payload_parts.proofs.bag.changes_follow.Goals as goal

pub loop-change-init : goal.loop-change-init
loop-change-init c = (c.args.rows.now, begun c.new-bag.result.times.entries c.put_all.new.self.times.entries c.args.rows.now c.new-bag.ensures c.in_ok-put_all.ensures, (λ x. x, λ x. x))

pub returns-then-not-is_net : goal.returns-then-not-is_net
returns-then-not-is_net c =
    never (stops c.args.rows.now c.args.changes.now c.loop-change.change-index c.change-item.result c.loop-change.bag.times.entries c.loop-change-test.true c.change-item.is
    (λ rows counts form holds. let wrong : false ≡ true = c.if-not-is_net.ensures.1 form in cc) c.loop-change.invariant)

pub change-requires : goal.change-requires
change-requires c = c.if-not-is_net.ensures.0 refl

pub returns-then-not-branch : goal.returns-then-not-branch
returns-then-not-branch c =
    never (stops c.args.rows.now c.args.changes.now c.loop-change.change-index c.change-item.result c.loop-change.bag.times.entries c.loop-change-test.true c.change-item.is
    (c.in_ok-change.ensures.refuses c.if-not-branch.true) c.loop-change.invariant)

pub loop-change-preserved : goal.loop-change-preserved
loop-change-preserved c =
    goes_on c.args.rows.now c.args.changes.now c.loop-change.change-index c.change-item.result c.loop-change.bag.times.entries c.change.new.self.times.entries c.loop-change-test.true c.change-item.is
    (c.in_ok-change.ensures.leads c.if-not-branch.false) c.loop-change.invariant
