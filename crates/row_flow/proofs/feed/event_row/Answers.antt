use Rattle.flow_model.specs.Feed.{reading}
use Rattle.row_flow.proofs.ResultLemmas.{feed_is, feed_stops}
use Rattle.row_flow.proofs.feed.event_row.Goals as goal

pub returns-in-Ok : goal.returns-in-Ok
returns-in-Ok c = feed_is c.args.expectations.now (reading c.args.cdc.now c.args.expectations.now c.args.row.now) c.args.number c.in-Ok.judged c.judge.new.marks c.in-Ok.ensures

pub returns-in_ok-stop_of-in-Err : goal.returns-in_ok-stop_of-in-Err
returns-in_ok-stop_of-in-Err c = feed_stops c.args.expectations.now (reading c.args.cdc.now c.args.expectations.now c.args.row.now) c.args.number c.in-Err.why c.judge.new.marks c.in_ok-stop_of-in-Err.field-0 c.in-Err.ensures c.in_ok-stop_of-in-Err.ensures
