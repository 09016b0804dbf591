use Rattle.standing_store.proofs.CommitLemmas.{base_fronts, compaction_stands, none_fronts}
use Rattle.standing_store.proofs.laws.a_compaction_keeps_standing.Goals as goal

pub returns : goal.returns
returns c = record {
  folded = λ ever. compaction_stands c.a_commit_keeps_a_store_standing.ensures c.steps_keep_the_shape.ensures.one ever c.a_saved_store_is_read_back.ensures;
  tried = base_fronts c.a_commit_keeps_a_store_standing.ensures c.steps_keep_the_shape.ensures.one;
  nothing = none_fronts;
}
