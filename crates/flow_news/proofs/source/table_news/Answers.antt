use Rattle.flow_news.proofs.source.table_news.Goals as goal

pub returns-in-Never-clause-news : goal.returns-in-Never-clause-news
returns-in-Never-clause-news g c = λ from. rw c.in-Never.is (c.first_news.ensures.news from)

pub returns-in-At-clause-news : goal.returns-in-At-clause-news
returns-in-At-clause-news g c = λ from. rw c.in-At.is (c.version_news.ensures.news from)
