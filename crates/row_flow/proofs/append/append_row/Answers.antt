use Rattle.flow_model.specs.Append.{judged}
use Rattle.row_flow.proofs.ResultLemmas.{append_is, append_stops}
use Rattle.row_flow.proofs.append.append_row.Goals as goal

pub returns-in-Ok : goal.returns-in-Ok
returns-in-Ok c = append_is c.args.expectations.now (judged c.args.flow.now c.args.expectations.now c.args.row.now) c.args.number c.in-Ok.judged c.judge.new.marks c.in-Ok.ensures

pub returns-in_ok-stop_of-in-Err : goal.returns-in_ok-stop_of-in-Err
returns-in_ok-stop_of-in-Err c = append_stops c.args.expectations.now (judged c.args.flow.now c.args.expectations.now c.args.row.now) c.args.number c.in-Err.why c.judge.new.marks c.in_ok-stop_of-in-Err.field-0 c.in-Err.ensures c.in_ok-stop_of-in-Err.ensures
