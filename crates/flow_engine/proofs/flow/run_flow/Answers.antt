use Rattle.pair_store.specs.Store.{store_state}
use Rattle.flow_engine.specs.Commits.{MayRun}
use Rattle.std.proofs.Common.{rules, ◌<◌, length, Ok, Err, ap, ◌∙◌, subst, sym}
use Rattle.std.proofs.lemmas.Option.{slice_get_within}
use Rattle.flow_engine.specs.Engine.{LandingNow}
use Rattle.flow_engine.specs.declared.engine.Engine.{Engine}
use Rattle.flow_engine.proofs.PlaceLemmas.{at_flow, marked_length, named_there}
use Rattle.flow_engine.proofs.RunLemmas.{ran}
use Rattle.flow_engine.proofs.flow.run_flow.Goals as goal

pub run_unless_blocked-ended-requires-clause-listing : goal.run_unless_blocked-ended-requires-clause-listing
run_unless_blocked-ended-requires-clause-listing g c =
    let dataset = c.dataset_at-dataset.result.now in
    let flow = c.flow_at-appending.result.now in
    let listed = c.requires.listed c.args.flow dataset flow (at_flow c.args.plan.now c.args.flow dataset flow c.dataset_at-dataset.ensures c.flow_at-appending.ensures) in
    search (rules, listed)

pub run_unless_blocked-ended-requires-clause-may_run : goal.run_unless_blocked-ended-requires-clause-may_run
run_unless_blocked-ended-requires-clause-may_run g c = let may : MayRun c.args.plan.now (store_state c.args.engine.now.store) c.dataset_at-dataset.result.now c.flow_at-appending.result.now = record {
  appends = c.requires.appends;
  sound = c.requires.sound;
  text = c.requires.text;
  ready = c.requires.ready;
  flows = c.flow_at-appending.ensures.flows;
  named = named_there c.args.plan.now c.requires.sound c.args.flow.dataset c.dataset_at-dataset.result.now c.dataset_at-dataset.ensures;
  body_is = c.flow_at-appending.ensures.appends;
  is_flow = c.flow_at-appending.ensures.named;
} in search (rules, may)

pub mark-requires : goal.mark-requires
mark-requires g c =
    let within = slice_get_within c.args.plan.now c.args.flow.dataset c.dataset_at-dataset.result.now c.dataset_at-dataset.ensures in
    subst (λ n. c.args.flow.dataset < n) (sym c.requires.marks) within

pub returns-in-Ok-clause-runs : goal.returns-in-Ok-clause-runs
returns-in-Ok-clause-runs g c = λ told honest held.
    let a = c.args in
    let dataset = c.dataset_at-dataset.result.now in
    let flow = c.flow_at-appending.result.now in
    let landed : LandingNow = record { tells = g.L.Landing.tells; present = g.L.Landing.present a.landing.now; ever = g.L.Landing.ever a.landing.now; listings = a.listings.now } in
    let now : Engine = record { store = c.run_unless_blocked-ended.new.store; halted = c.mark.new.halted } in
    ran g.D.Disk.tells_moments landed a.plan.now (g.D.Disk.room a.disk.now) a.flow a.engine.now dataset flow (at_flow a.plan.now a.flow dataset flow c.dataset_at-dataset.ensures c.flow_at-appending.ensures)
    c.as_slice.result.now c.as_slice.ensures.value now (Ok c.in-Ok.end) (g.D.Disk.state a.disk.now) (g.D.Disk.state c.run_unless_blocked-ended.new.disk)
    (c.in-Ok.ensures.ended told honest held) (rw c.is_halt.ensures at c.mark.ensures)

pub returns-in-Ok-clause-marks : goal.returns-in-Ok-clause-marks
returns-in-Ok-clause-marks g c = ap length c.mark.ensures ∙ (marked_length c.args.flow.dataset c.is_halt.result c.args.engine.now.halted.items ∙ c.requires.marks)

pub returns-in-Err-clause-runs : goal.returns-in-Err-clause-runs
returns-in-Err-clause-runs g c = λ told honest held.
    let a = c.args in
    let dataset = c.dataset_at-dataset.result.now in
    let flow = c.flow_at-appending.result.now in
    let landed : LandingNow = record { tells = g.L.Landing.tells; present = g.L.Landing.present a.landing.now; ever = g.L.Landing.ever a.landing.now; listings = a.listings.now } in
    let now : Engine = record { store = c.run_unless_blocked-ended.new.store; halted = a.engine.now.halted } in
    ran g.D.Disk.tells_moments landed a.plan.now (g.D.Disk.room a.disk.now) a.flow a.engine.now dataset flow (at_flow a.plan.now a.flow dataset flow c.dataset_at-dataset.ensures c.flow_at-appending.ensures)
    c.as_slice.result.now c.as_slice.ensures.value now (Err c.in-Err.end) (g.D.Disk.state a.disk.now) (g.D.Disk.state c.run_unless_blocked-ended.new.disk)
    (c.in-Err.ensures.ended told honest held) tt
