use Rattle.state_model.specs.Dataset.{dataset_of}
use Rattle.pair_store.specs.Store.{store_state}
use Rattle.append_offers.proofs.BlameLemmas.{answer_blamed}
use Rattle.append_offers.proofs.CommitLemmas.{may_commit}
use Rattle.append_offers.proofs.FollowLemmas.{may_follow}
use Rattle.append_offers.proofs.flow.append_offer.Goals as goal

pub returns-clause-standing : goal.returns-clause-standing
returns-clause-standing g c = λ told held parts flows stands named body_is is_flow.
    let a = c.args in
    may_commit g.L.Landing.tells told (g.L.Landing.faults a.landing.now) (g.L.Landing.faults c.offer_of.new.landing) (g.L.Landing.present a.landing.now) (g.L.Landing.ever a.landing.now) held
    c.places_have_one_form.ensures c.reach_keeps_ends.ensures c.a_reading_finds_what_is_between.ensures
    parts _ a.dataset.now flows a.flow.now a.listing.now c.requires.listing stands named body_is is_flow c.offer_of.result c.offer_of.ensures.offer

pub returns-clause-blames : goal.returns-clause-blames
returns-clause-blames g c =
    let a = c.args in
    answer_blamed a.listing.now (g.L.Landing.faults a.landing.now) (g.L.Landing.faults c.offer_of.new.landing) g.L.Landing.tells (g.L.Landing.present a.landing.now) a.dataset.now a.flow.now (store_state a.store.now)
    (dataset_of (store_state a.store.now) a.dataset.now.name) c.offer_of.result c.offer_of.ensures.offer

pub returns-clause-follows : goal.returns-clause-follows
returns-clause-follows g c = λ plan flows sound texts ready named body_is is_there.
    let a = c.args in
    may_follow c.append_rows_fit_the_table.ensures g.L.Landing.tells (g.L.Landing.faults a.landing.now) (g.L.Landing.faults c.offer_of.new.landing) (g.L.Landing.present a.landing.now) plan (store_state a.store.now)
    a.dataset.now flows a.flow.now a.listing.now sound texts ready (c.a_state_comes_of_payloads.ensures.stored (store_state a.store.now) ready.reached) named body_is is_there c.offer_of.result c.offer_of.ensures.offer
