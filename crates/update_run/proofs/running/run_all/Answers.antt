use Rattle.std.proofs.Common.{rules, ◌+◌, ◌∙◌, Bool, get_or, refl, sym, subst, arith}
use Rattle.std.proofs.lemmas.List.{get_or_default}
use Rattle.flow_engine.specs.declared.flow_id.FlowId.{FlowId}
use Rattle.flow_engine.specs.Flows.{IsFlow}
use Rattle.flow_engine.specs.Points.{engine_store, point_of}
use Rattle.update_run.specs.Runs.{landed_by}
use Rattle.update_run.proofs.ListingLemmas.{still_readable}
use Rattle.update_run.proofs.OrderLemmas.{read_at}
use Rattle.update_run.proofs.SeriesLemmas.{GoesOn, all_ran, begins, cut_short, goes_on}
use Rattle.update_run.proofs.running.run_all.Goals as goal

abbrev nowhere : FlowId
nowhere = record { dataset = 0; flow = 0 }

pub loop-flow-init : goal.loop-flow-init
loop-flow-init g c =
    let d = g.D.Disk in
    let f = g.L.Landing in
    let s = g.S.Sink in
    let disk = c.args.disk.now in
    let engine = c.args.engine.now in
    let trails = c.nothing_tried_leaves_a_trail.ensures in
    record {
      runs = λ tells files past same same_ever holds was now blamed from till.
          begins c.a_commit_keeps_a_store_standing.ensures d.tells_moments s.tells (landed_by f.tells files past c.args.listings.now) was now c.args.plan.now (d.room disk) c.args.flows.now (point_of engine) (d.state disk) (s.written c.args.out.now)
          (trails.trail (point_of engine).state disk (trails.at_rest (engine_store engine) disk (c.requires.at_rest tells)));
      listed = c.requires.listed;
      ready = c.requires.ready;
      marks = c.requires.marks;
      whole = c.requires.whole;
      at_rest = c.requires.at_rest;
      honest = c.requires.honest;
      present = λ t. refl;
      ever = λ t. refl;
      room = refl;
      disk_later = search rules;
      landing_later = search rules;
      sink_later = search rules;
    }

pub run_next-requires-clause-flow : goal.run_next-requires-clause-flow
run_next-requires-clause-flow g c = λ lives outlive. read_at (IsFlow c.args.plan.now) c.args.flows.now c.loop-flow.flow-index nowhere c.requires.flows c.loop-flow-test.true

pub returns-in-Err-clause-runs : goal.returns-in-Err-clause-runs
returns-in-Err-clause-runs g c = λ tells files past same same_ever holds was now blamed from till.
    let d = g.D.Disk in
    let f = g.L.Landing in
    let s = g.S.Sink in
    let before = c.loop-flow.invariant in
    let flow = get_or c.args.flows.now c.loop-flow.flow-index nowhere in
    let next = rw before.room at (c.in-Err.ensures.runs tells (before.honest tells) files past (λ t. before.present t ∙ same t) (λ t. before.ever t ∙ same_ever t) holds was now blamed (omega (arith, from, before.landing_later)) till) in
    cut_short c.a_commit_keeps_a_store_standing.ensures d.tells_moments s.tells (landed_by f.tells files past c.args.listings.now) was now c.args.plan.now (d.room c.args.disk.now) c.args.flows.now (point_of c.args.engine.now)
    (d.state c.args.disk.now) (s.written c.args.out.now) c.loop-flow.flow-index flow c.loop-flow-test.true (get_or_default c.args.flows.now c.loop-flow.flow-index nowhere flow c.loop-flow-test.true)
    (point_of c.loop-flow.engine) c.loop-flow.any (d.state c.loop-flow.disk) (d.state c.run_next.new.disk) (s.written c.loop-flow.out) (s.written c.run_next.new.out)
    (λ first acked tried. c.trails_join.ensures (point_of c.args.engine.now).state first acked tried c.args.disk.now c.loop-flow.disk c.run_next.new.disk)
    (before.runs tells files past same same_ever holds was now blamed from (omega (arith, c.in-Err.ensures.landing_later, till))) c.in-Err.why next

pub loop-flow-preserved : goal.loop-flow-preserved
loop-flow-preserved g c =
    let d = g.D.Disk in
    let f = g.L.Landing in
    let s = g.S.Sink in
    let before = c.loop-flow.invariant in
    let facts = c.in-Ok.ensures in
    let flow = get_or c.args.flows.now c.loop-flow.flow-index nowhere in
    record {
      runs = λ tells files past same same_ever holds was now blamed from till.
          let next = rw before.room at (facts.runs tells (before.honest tells) files past (λ t. before.present t ∙ same t) (λ t. before.ever t ∙ same_ever t) holds was now blamed (omega (arith, from, before.landing_later)) till) in
          subst (λ (any : Bool). GoesOn d.tells_moments s.tells (landed_by f.tells files past c.args.listings.now) was now c.args.plan.now (d.room c.args.disk.now) c.args.flows.now (c.loop-flow.flow-index + 1) (point_of c.args.engine.now)
          (point_of c.run_next.new.engine) any (d.state c.args.disk.now) (d.state c.run_next.new.disk) (s.written c.args.out.now) (s.written c.run_next.new.out)) (sym c.either-any.ensures)
          (goes_on c.a_commit_keeps_a_store_standing.ensures d.tells_moments s.tells (landed_by f.tells files past c.args.listings.now) was now c.args.plan.now (d.room c.args.disk.now) c.args.flows.now (point_of c.args.engine.now)
          (d.state c.args.disk.now) (s.written c.args.out.now) c.loop-flow.flow-index flow c.loop-flow-test.true (get_or_default c.args.flows.now c.loop-flow.flow-index nowhere flow c.loop-flow-test.true)
          (point_of c.loop-flow.engine) c.loop-flow.any (d.state c.loop-flow.disk) (d.state c.run_next.new.disk) (s.written c.loop-flow.out) (s.written c.run_next.new.out)
          (λ first acked tried. c.trails_join.ensures (point_of c.args.engine.now).state first acked tried c.args.disk.now c.loop-flow.disk c.run_next.new.disk)
          (before.runs tells files past same same_ever holds was now blamed from (omega (arith, facts.landing_later, till))) c.in-Ok.stopped c.run_next.new.engine next);
      listed = still_readable f.tells (f.present c.loop-flow.landing) (f.present c.run_next.new.landing) (λ t. sym (facts.present t)) c.args.plan.now c.args.listings.now before.listed;
      ready = facts.ready;
      marks = facts.marks;
      whole = facts.whole;
      at_rest = λ tells. facts.at_rest tells (before.honest tells);
      honest = λ tells. facts.honest tells (before.honest tells);
      present = λ t. facts.present t ∙ before.present t;
      ever = λ t. facts.ever t ∙ before.ever t;
      room = facts.room ∙ before.room;
      disk_later = omega (arith, facts.disk_later, before.disk_later);
      landing_later = omega (arith, facts.landing_later, before.landing_later);
      sink_later = omega (arith, facts.sink_later, before.sink_later);
    }

pub returns-clause-runs : goal.returns-clause-runs
returns-clause-runs g c = λ tells files past same same_ever holds was now blamed from till.
    let d = g.D.Disk in
    let f = g.L.Landing in
    let s = g.S.Sink in
    all_ran c.a_commit_keeps_a_store_standing.ensures d.tells_moments s.tells (landed_by f.tells files past c.args.listings.now) was now c.args.plan.now (d.room c.args.disk.now) c.args.flows.now (point_of c.args.engine.now)
    (d.state c.args.disk.now) (s.written c.args.out.now) c.loop-flow.flow-index (point_of c.loop-flow.engine) c.loop-flow.any (d.state c.loop-flow.disk) (s.written c.loop-flow.out) c.loop-flow-test.false
    (c.loop-flow.invariant.runs tells files past same same_ever holds was now blamed from till)
