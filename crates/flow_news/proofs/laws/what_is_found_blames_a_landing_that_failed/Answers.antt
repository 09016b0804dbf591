use Rattle.flow_news.proofs.BlameLemmas.{finds_blamed}
use Rattle.flow_news.proofs.laws.what_is_found_blames_a_landing_that_failed.Goals as goal

pub returns : goal.returns
returns g c = λ was now files state listing from cursor found comes. finds_blamed listing was now found g.L.Landing.tells files state from cursor comes
