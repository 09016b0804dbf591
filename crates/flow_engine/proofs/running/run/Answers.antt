use Rattle.std.proofs.Common.{Err, refl}
use Rattle.pair_store.specs.Store.{store_state}
use Rattle.flow_engine.specs.Commits.{end_of}
use Rattle.flow_engine.specs.Ends.{Runs}
use Rattle.flow_engine.specs.declared.ends.End.TheVariants.{Memory}
use Rattle.flow_engine.proofs.EndLemmas.{ran_out}
use Rattle.flow_engine.proofs.running.run.Goals as goal

pub returns-in-Ok-clause-landing_fault : goal.returns-in-Ok-clause-landing_fault
returns-in-Ok-clause-landing_fault g c =
    c.settle.ensures.blames c.args.listing.now (g.L.Landing.faults c.args.landing.now) (g.L.Landing.faults c.append_offer-offered.new.landing) c.in-Ok.ensures.blames

pub returns-in-Err-clause-ended : goal.returns-in-Err-clause-ended
returns-in-Err-clause-ended g c = λ told honest held.
    let a = c.args in
    ran_out g.D.Disk.tells_moments g.L.Landing.tells (g.L.Landing.ever a.landing.now) a.dataset.now a.store.now
    (Runs g.L.Landing.tells (g.L.Landing.present a.landing.now) (g.D.Disk.room a.disk.now) a.listing.now (store_state a.store.now) (end_of a.store.now) a.dataset.now a.flow.now)
    (Err Memory) (g.D.Disk.state a.disk.now) refl
    (c.nothing_tried_leaves_a_trail.ensures.trail (store_state a.store.now) a.disk.now (c.nothing_tried_leaves_a_trail.ensures.at_rest a.store.now a.disk.now (c.requires.at_rest told)))
