use Rattle.plan_core.specs.declared.flow.Origin.TheVariants as origin
use Rattle.pair_store.specs.Store.{store_state}
use Rattle.state_model.specs.Dataset.{dataset_of}
use Rattle.flow_news.proofs.SourceLemmas.{source_found}
use Rattle.flow_news.proofs.read.find_news.Goals as goal

pub returns-in-Some-clause-news : goal.returns-in-Some-clause-news
returns-in-Some-clause-news g c =
    let name = c.in-Table.name in
    let from = origin.Table name in
    rw c.in-Table.is (source_found (dataset_of (store_state c.args.store.now) name) c.in-Some.table.now c.args.cursor.now from c.table_news.result c.in-Some.ensures (c.table_news.ensures.news from))
