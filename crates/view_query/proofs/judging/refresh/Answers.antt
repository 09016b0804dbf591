use Rattle.view_query.proofs.JudgeLemmas.{refresh_judged, refresh_stopped}
use Rattle.view_query.proofs.judging.refresh.Goals as goal

pub returns-in-Ok : goal.returns-in-Ok
returns-in-Ok c = refresh_judged c.args.query.now c.args.expectations.now c.args.rows.now c.in-Ok.result c.judge.result c.in-Ok.ensures c.judge.ensures

pub returns-in-Err : goal.returns-in-Err
returns-in-Err c = refresh_stopped c.args.query.now c.args.expectations.now c.args.rows.now c.in-Err.end c.in-Err.ensures
