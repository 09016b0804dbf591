use Rattle.pair_store.specs.Store.{store_state}
use Rattle.flow_news.specs.Finds.{found_of}
use Rattle.append_offers.proofs.NewsLemmas.{answer_as}
use Rattle.append_offers.proofs.flow.origin_offer.Goals as goal

pub returns-clause-offer : goal.returns-clause-offer
returns-clause-offer g c =
    let a = c.args in
    let L = g.L.Landing in
    let from = a.flow.now.origin in
    answer_as L.tells (L.faults a.landing.now) (L.faults c.find_news.new.landing) (L.present a.landing.now) a.dataset.now a.flow.now a.kept.now (store_state a.store.now) a.listing.now a.cursor.now from
    (found_of from c.in_ok-news.news) c.news_offer.result c.in_ok-news.ensures.news c.news_offer.ensures
