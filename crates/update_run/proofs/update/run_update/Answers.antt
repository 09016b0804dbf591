use Rattle.std.proofs.Common.{◌∙◌, List, inl, inr, refl, sym, subst, arith}
use Rattle.flow_engine.specs.declared.flow_id.FlowId.{FlowId}
use Rattle.flow_engine.specs.Points.{engine_store, point_of}
use Rattle.update_run.specs.Runs.{HaveRun, landed_by}
use Rattle.update_run.proofs.ListingLemmas.{are_readable, blamed_more}
use Rattle.update_run.proofs.update.run_update.Goals as goal

pub returns-in_default-clause-updates : goal.returns-in_default-clause-updates
returns-in_default-clause-updates g c = λ tells holds.
    let trails = c.nothing_tried_leaves_a_trail.ensures in
    let engine = c.args.engine.now in
    let disk = c.args.disk.now in
    inl (record {
      answer_is = refl;
      trail = trails.trail (point_of engine).state disk (trails.at_rest (engine_store engine) disk (c.requires.at_rest tells));
      printed = λ t. refl;
    })

pub returns-in_default-flow_order-clause-updates : goal.returns-in_default-flow_order-clause-updates
returns-in_default-flow_order-clause-updates g c = λ tells holds.
    let trails = c.nothing_tried_leaves_a_trail.ensures in
    let engine = c.args.engine.now in
    let disk = c.args.disk.now in
    inl (record {
      answer_is = refl;
      trail = trails.trail (point_of engine).state disk (trails.at_rest (engine_store engine) disk (c.requires.at_rest tells));
      printed = λ t. refl;
    })

pub run_all-requires-clause-listed : goal.run_all-requires-clause-listed
run_all-requires-clause-listed g c lives outlive =
    let f = g.L.Landing in
    are_readable f.tells (f.present c.args.landing.now) (f.present c.list_all.new.landing) (λ t. sym (c.in-Ok.ensures.present t)) c.args.plan.now c.in-Ok.listings c.in-Ok.ensures.listed

pub returns-clause-updates : goal.returns-clause-updates
returns-clause-updates g c = λ tells holds.
    let d = g.D.Disk in
    let f = g.L.Landing in
    let s = g.S.Sink in
    let present = f.present c.args.landing.now in
    let ever = f.ever c.args.landing.now in
    let was = f.faults c.args.landing.now in
    let listed = f.faults c.list_all.new.landing in
    let now = f.faults c.run_all.new.landing in
    let listings = c.in-Ok.listings in
    let all = c.in-Ok.ensures in
    let blamed = blamed_more was listed now listings c.run_all.ensures.landing_later all.failed in
    inr (record {
      listings = listings;
      once = all.folders;
      listed = all.listed;
      ran = subst (λ (flows : List FlowId). HaveRun d.tells_moments s.tells (landed_by f.tells present ever listings) was now c.args.plan.now (d.room c.args.disk.now) flows (point_of c.args.engine.now) c.run_all.result
          (d.state c.args.disk.now) (d.state c.run_all.new.disk) (s.written c.args.out.now) (s.written c.run_all.new.out)) (c.as_slice.ensures.value ∙ c.in-Ok-flow_order.ensures.order)
          (c.run_all.ensures.runs tells present ever all.present all.ever holds was now blamed all.later (omega (arith, c.run_all.ensures.landing_later)));
    })
