use Rattle.standing_store.proofs.EmptyLemmas.{none_standing}
use Rattle.standing_store.proofs.laws.an_empty_store_stands.Goals as goal

pub returns : goal.returns
returns c = λ ever. none_standing ever (c.nothing_stands.ensures.stands ever) c.nothing_stands.ensures.shaped
