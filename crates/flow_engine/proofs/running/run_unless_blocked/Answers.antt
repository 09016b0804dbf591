use Rattle.std.proofs.Common.{subst}
use Rattle.flow_news.specs.declared.offer.FolderListing.{FolderListing}
use Rattle.pair_store.specs.Store.{store_state}
use Rattle.flow_engine.specs.Commits.{HasEnded, end_of}
use Rattle.flow_engine.specs.Ends.{Runs}
use Rattle.flow_engine.specs.Flows.{blocked_by, listing_for}
use Rattle.flow_engine.proofs.EndLemmas.{skipped_ends, unblocked}
use Rattle.flow_engine.proofs.running.run_unless_blocked.Goals as goal

pub returns-in-Some-clause-ended : goal.returns-in-Some-clause-ended
returns-in-Some-clause-ended g c = λ told honest held.
    let a = c.args in
    let blocked = blocked_by a.flow.now.origin a.plan.now a.halted.now in
    skipped_ends g.D.Disk.tells_moments g.L.Landing.tells (g.L.Landing.present a.landing.now) (g.L.Landing.ever a.landing.now) (g.D.Disk.room a.disk.now) (listing_for a.listings.now a.flow.now.origin) a.dataset.now a.flow.now a.store.now
    blocked c.in-Some.source.now.name c.skipped.result (g.D.Disk.state a.disk.now) (rw c.as_slice.ensures at c.in-Some.ensures) c.skipped.ensures.skips c.skipped.ensures.memory
    (c.nothing_tried_leaves_a_trail.ensures.trail (store_state a.store.now) a.disk.now (c.nothing_tried_leaves_a_trail.ensures.at_rest a.store.now a.disk.now (c.requires.at_rest told)))

pub returns-in-None-clause-ended : goal.returns-in-None-clause-ended
returns-in-None-clause-ended g c = λ told honest held.
    let a = c.args in
    let blocked = blocked_by a.flow.now.origin a.plan.now a.halted.now in
    let listing = listing_for a.listings.now a.flow.now.origin in
    let ended = subst (λ (l : FolderListing). HasEnded g.D.Disk.tells_moments g.L.Landing.tells (g.L.Landing.ever a.landing.now) a.dataset.now
    (Runs g.L.Landing.tells (g.L.Landing.present a.landing.now) (g.D.Disk.room a.disk.now) l (store_state a.store.now) (end_of a.store.now) a.dataset.now a.flow.now) a.store.now c.run.new.store c.run.result (g.D.Disk.state a.disk.now) (g.D.Disk.state c.run.new.disk))
    c.listing_of-listing.ensures (c.run.ensures.ended told honest held) in
    unblocked g.D.Disk.tells_moments g.L.Landing.tells (g.L.Landing.present a.landing.now) (g.L.Landing.ever a.landing.now) (g.D.Disk.room a.disk.now) listing a.dataset.now a.flow.now a.store.now
    blocked c.run.new.store c.run.result (g.D.Disk.state a.disk.now) (g.D.Disk.state c.run.new.disk) (rw c.as_slice.ensures at c.in-None.ensures) ended
