use Rattle.std.proofs.Common.{take}
use Rattle.payload_parts.proofs.MomentLemmas.{goes_on, moments_more, stops, was_new, was_there}
use Rattle.payload_parts.proofs.events.moments_of.Goals as goal

pub returns-then-not-branch-clause-differ : goal.returns-then-not-branch-clause-differ
returns-then-not-branch-clause-differ c =
    stops c.args.events.now c.loop-event.event-index c.event-item.result c.loop-event-test.true c.event-item.is
    (was_there c.loop-event.moments (take c.loop-event.event-index c.args.events.now) c.event-item.result c.in_ok-when.when c.in_ok-insert.field-0 c.in_ok-when.ensures c.loop-event.invariant.has c.in_ok-insert.ensures.added c.if-not-branch.true)
    c.loop-event.invariant.same

pub returns-then-not-branch-clause-moments : goal.returns-then-not-branch-clause-moments
returns-then-not-branch-clause-moments c = returns-then-not-branch-clause-differ c

pub loop-event-preserved : goal.loop-event-preserved
loop-event-preserved c = record {
  has = moments_more c.loop-event.moments c.insert.new.self c.args.events.now c.loop-event.event-index c.event-item.result c.in_ok-when.when c.loop-event-test.true c.event-item.is c.in_ok-when.ensures c.in_ok-insert.ensures.updates.0 c.loop-event.invariant.has;
  same = goes_on c.args.events.now c.loop-event.event-index c.event-item.result c.loop-event-test.true c.event-item.is
      (was_new c.loop-event.moments (take c.loop-event.event-index c.args.events.now) c.event-item.result c.in_ok-when.when c.in_ok-insert.field-0 c.in_ok-when.ensures c.loop-event.invariant.has c.in_ok-insert.ensures.added c.if-not-branch.false)
      c.loop-event.invariant.same;
}
