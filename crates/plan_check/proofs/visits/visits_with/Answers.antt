use Rattle.std.proofs.Common.{◌∙◌, drop, sym}
use Rattle.plan_check.proofs.Steps.{no_levels_left}
use Rattle.plan_check.proofs.visits.visits_with.Goals as goal

pub returns-in_default : goal.returns-in_default
returns-in_default c =
    sym (no_levels_left c.loop-place.visits.items (drop c.loop-place.place-index c.args.places.now) c.loop-place.rest.now c.in_default.ensures.cases) ∙ c.loop-place.invariant
