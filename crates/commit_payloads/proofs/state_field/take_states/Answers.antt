use Rattle.std.proofs.Common.{drop, arith}
use Rattle.segment_rows.specs.Reading.{items_at}
use Rattle.commit_payloads.specs.Reading.{dataset_state_at}
use Rattle.commit_payloads.proofs.StateLemmas.{goes_on, ends, is_done}
use Rattle.commit_payloads.proofs.state_field.take_states.Goals as goal

pub returns-in_default : goal.returns-in_default
returns-in_default c =
    let none = rw c.in_default.is at c.in_ok-state.ensures in
    ends dataset_state_at c.loop.states c.args.count c.loop.counter (drop c.loop.place c.args.bytes.now) (items_at dataset_state_at c.args.count (drop c.args.at c.args.bytes.now)) c.loop-test.true none c.loop.invariant.read

pub loop-preserved : goal.loop-preserved
loop-preserved c =
    let one = rw c.in-Some.is at c.in_ok-state.ensures in
    record {
      read = rw c.in_ok-push.ensures.ok (goes_on dataset_state_at c.loop.states c.args.count c.loop.counter (drop c.loop.place c.args.bytes.now) c.in-Some.state (drop c.in-Some.end c.args.bytes.now) (items_at dataset_state_at c.args.count (drop c.args.at c.args.bytes.now)) c.loop-test.true one.2 c.loop.invariant.read);
      after = omega (arith, one.0, c.loop.invariant.after);
      within = one.1;
    }

pub returns : goal.returns
returns c = (c.loop.invariant.after, c.loop.invariant.within, is_done dataset_state_at c.loop.states c.args.count c.loop.counter (drop c.loop.place c.args.bytes.now) (items_at dataset_state_at c.args.count (drop c.args.at c.args.bytes.now)) c.loop-test.false c.loop.invariant.read)
