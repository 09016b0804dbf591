use Rattle.std.proofs.Common.{refl, subst, sym}
use Rattle.plan_core.specs.declared.stop.FlowEnd.TheVariants.{Current, Stopped}
use Rattle.pair_state.specs.Leads.{IsReachable}
use Rattle.pair_store.specs.Store.{store_state}
use Rattle.store_fitness.specs.Fitness.{IsReady}
use Rattle.flow_news.specs.declared.offer.Offer.TheVariants.{Halted, Idle}
use Rattle.flow_engine.proofs.CommitLemmas.{may_take, settled_none}
use Rattle.flow_engine.proofs.settle.settle.Goals as goal

pub returns-in-Idle-clause-settled : goal.returns-in-Idle-clause-settled
returns-in-Idle-clause-settled g c = λ told honest.
    let a = c.args in
    rw c.in-Idle.is (settled_none g.D.Disk.tells_moments (g.D.Disk.room a.disk.now) a.version a.store.now Idle Current (g.D.Disk.state a.disk.now) (refl, refl, refl)
    (c.nothing_tried_leaves_a_trail.ensures.trail (store_state a.store.now) a.disk.now (c.nothing_tried_leaves_a_trail.ensures.at_rest a.store.now a.disk.now (c.requires.at_rest told))))

pub returns-in-Halted-clause-settled : goal.returns-in-Halted-clause-settled
returns-in-Halted-clause-settled g c = λ told honest.
    let a = c.args in
    rw c.in-Halted.is (settled_none g.D.Disk.tells_moments (g.D.Disk.room a.disk.now) a.version a.store.now (Halted c.in-Halted.why) (Stopped c.in-Halted.why) (g.D.Disk.state a.disk.now) (refl, refl, refl)
    (c.nothing_tried_leaves_a_trail.ensures.trail (store_state a.store.now) a.disk.now (c.nothing_tried_leaves_a_trail.ensures.at_rest a.store.now a.disk.now (c.requires.at_rest told))))

pub returns-in-Ok-clause-ready : goal.returns-in-Ok-clause-ready
returns-in-Ok-clause-ready g c = λ plan appends ready.
    let state = store_state c.args.store.now in
    let may = may_take state c.requires.follows.0 c.args.offer c.in-Ready.read c.in-Ready.batch c.in-Ready.is c.requires.follows.1 in
    let reached = subst IsReachable c.in-Ok.ensures.state (c.commit.ensures.reached ready.reached) in
    subst (IsReady plan) (sym c.in-Ok.ensures.state) (c.a_batch_keeps_a_store_ready.ensures plan state c.in-Ready.batch appends ready may.0 may.2 reached)
