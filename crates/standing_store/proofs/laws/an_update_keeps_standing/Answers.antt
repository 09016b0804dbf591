use Rattle.standing_store.proofs.CommitLemmas.{update_stands}
use Rattle.standing_store.proofs.PlanLemmas.{each_named}
use Rattle.standing_store.proofs.laws.an_update_keeps_standing.Goals as goal

pub returns : goal.returns
returns c = λ ever state parts plan statements asked tried standing read checked are fronts.
    update_stands c.a_commit_keeps_a_store_standing.ensures c.steps_keep_the_shape.ensures.one ever state parts plan statements asked tried
    (each_named plan (c.plans_have_different_names.ensures statements plan checked)) standing read checked are fronts
