use Rattle.update_plan.proofs.CommitLemmas.{planned_commit}
use Rattle.update_plan.proofs.laws.planned_payloads_are_commits.Goals as goal

pub returns : goal.returns
returns c = λ plan parts ever state refresh payloads sound texts stands typed are planned.
    planned_commit c.a_commit_keeps_a_store_standing.ensures c.nothing_stands.ensures.stands c.a_plan_has_its_edges.ensures.are c.a_closure_is_a_reset.ensures plan parts ever state sound texts stands typed refresh payloads are planned
