use Rattle.std.proofs.Common.{drop, arith}
use Rattle.segment_rows.specs.Reading.{items_at}
use Rattle.segment_rows.proofs.LoopLemmas.{goes_on, ends, is_done}
use Rattle.segment_rows.proofs.list.take_items.Goals as goal

pub returns-in_default : goal.returns-in_default
returns-in_default g c =
    let none = rw c.in_default.is at c.in_ok-item.ensures in
    ends g.T.Field.reading c.loop.items c.args.count c.loop.counter (drop c.loop.place c.args.bytes.now) (items_at g.T.Field.reading c.args.count (drop c.args.at c.args.bytes.now)) c.loop-test.true none c.loop.invariant.read

pub loop-preserved : goal.loop-preserved
loop-preserved g c =
    let one = rw c.in-Some.is at c.in_ok-item.ensures in
    record {
      read = rw c.in_ok-push.ensures.ok (goes_on g.T.Field.reading c.loop.items c.args.count c.loop.counter (drop c.loop.place c.args.bytes.now) c.in-Some.item (drop c.in-Some.end c.args.bytes.now) (items_at g.T.Field.reading c.args.count (drop c.args.at c.args.bytes.now)) c.loop-test.true one.2 c.loop.invariant.read);
      after = omega (arith, one.0, c.loop.invariant.after);
      within = one.1;
    }

pub returns : goal.returns
returns g c = (c.loop.invariant.after, c.loop.invariant.within, is_done g.T.Field.reading c.loop.items c.args.count c.loop.counter (drop c.loop.place c.args.bytes.now) (items_at g.T.Field.reading c.args.count (drop c.args.at c.args.bytes.now)) c.loop-test.false c.loop.invariant.read)
