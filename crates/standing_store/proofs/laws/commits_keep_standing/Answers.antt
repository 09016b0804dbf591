use Rattle.standing_store.proofs.CommitLemmas.{commits_stand}
use Rattle.standing_store.proofs.laws.commits_keep_standing.Goals as goal

pub returns : goal.returns
returns c = commits_stand c.a_commit_keeps_a_store_standing.ensures c.steps_keep_the_shape.ensures.one
