use Rattle.std.proofs.Common.{◌≡◌, ◌++◌, ℕ, List, ◌+◌, ◌∙◌, ap, drop}
use Rattle.plan_check.specs.Visits.{visits_at}
use Rattle.plan_check.proofs.Steps.{places_more}
use Rattle.plan_check.proofs.visits.visits_at.Goals as goal

pub loop-place-preserved : goal.loop-place-preserved
loop-place-preserved c =
    ap (λ (x : List ℕ). x ++ visits_at c.args.visits.now (drop (c.loop-place.place-index + 1) c.args.places.now)) c.in_ok-add_visit.ensures ∙
    places_more c.args.visits.now c.args.places.now c.loop-place.indices.items c.loop-place.place-index c.loop-place-test.true ∙
    c.loop-place.invariant
