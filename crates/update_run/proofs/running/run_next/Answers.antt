use Rattle.std.proofs.Common.{Bool, refl, sym, subst}
use Rattle.flow_engine.specs.Points.{point_of}
use Rattle.update_run.specs.Runs.{HasRunNext, landed_by}
use Rattle.update_run.proofs.BlameLemmas.{end_blames}
use Rattle.update_run.proofs.NextLemmas.{holds_here, next_broke, next_ran, next_untold}
use Rattle.update_run.proofs.running.run_next.Goals as goal

pub returns-in-Ok-tell-clause-runs : goal.returns-in-Ok-tell-clause-runs
returns-in-Ok-tell-clause-runs g c = λ tells honest files past same same_ever holds was now blamed from till.
    let d = g.D.Disk in
    let f = g.L.Landing in
    let s = g.S.Sink in
    let present = f.present c.args.landing.now in
    let ever = f.ever c.args.landing.now in
    let engine = c.args.engine.now in
    let ran = c.in-Ok.ensures.runs tells honest (holds_here f.tells present ever files past same same_ever holds) in
    let blames = end_blames was now (f.faults c.args.landing.now) (f.faults c.run_flow.new.landing) c.args.listings.now blamed from till c.in-Ok.end c.in-Ok.ensures.landing_fault in
    subst (λ (stopped : Bool). HasRunNext d.tells_moments s.tells (landed_by f.tells files past c.args.listings.now) was now c.args.plan.now (d.room c.args.disk.now) c.args.flow (point_of engine) stopped c.run_flow.new.engine
    (d.state c.args.disk.now) (d.state c.run_flow.new.disk) (s.written c.args.out.now) (s.written c.tell.new.out)) (sym c.is_stop.ensures)
    (next_ran d.tells_moments s.tells f.tells present ever files past c.args.listings.now same same_ever was now c.args.plan.now (d.room c.args.disk.now) c.args.flow engine
    (d.state c.args.disk.now) (d.state c.run_flow.new.disk) (s.written c.args.out.now) (s.written c.tell.new.out) c.in-Ok.end c.run_flow.new.engine ran blames c.in-Ok-tell.ensures.line)

pub returns-in-Ok-clause-runs : goal.returns-in-Ok-clause-runs
returns-in-Ok-clause-runs g c = λ tells honest files past same same_ever holds was now blamed from till.
    let d = g.D.Disk in
    let f = g.L.Landing in
    let s = g.S.Sink in
    let present = f.present c.args.landing.now in
    let ever = f.ever c.args.landing.now in
    let ran = c.in-Ok.ensures.runs tells honest (holds_here f.tells present ever files past same same_ever holds) in
    let blames = end_blames was now (f.faults c.args.landing.now) (f.faults c.run_flow.new.landing) c.args.listings.now blamed from till c.in-Ok.end c.in-Ok.ensures.landing_fault in
    next_untold d.tells_moments s.tells f.tells present ever files past c.args.listings.now same same_ever was now c.args.plan.now (d.room c.args.disk.now) c.args.flow c.args.engine.now
    (d.state c.args.disk.now) (d.state c.run_flow.new.disk) (s.written c.args.out.now) (s.written c.tell.new.out) c.in-Ok.end c.in-Err-tell.why c.run_flow.new.engine ran blames c.in-Err-tell.ensures.cut c.in-Err-tell.ensures.front

pub returns-clause-runs : goal.returns-clause-runs
returns-clause-runs g c = λ tells honest files past same same_ever holds was now blamed from till.
    let d = g.D.Disk in
    let f = g.L.Landing in
    let s = g.S.Sink in
    let present = f.present c.args.landing.now in
    let ever = f.ever c.args.landing.now in
    let ran = c.in-Err.ensures.runs tells honest (holds_here f.tells present ever files past same same_ever holds) in
    next_broke d.tells_moments s.tells f.tells present ever files past c.args.listings.now same same_ever was now c.args.plan.now (d.room c.args.disk.now) c.args.flow c.args.engine.now
    (d.state c.args.disk.now) (d.state c.run_flow.new.disk) (s.written c.args.out.now) (s.written c.args.out.now) c.in-Err.why c.run_flow.new.engine ran (λ t. refl)
