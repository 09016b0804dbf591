use Rattle.std.proofs.Common.{sym, ap, ◌∙◌}
use Rattle.store_state.specs.Follows.{are_distinct}
use Rattle.store_state.proofs.WalkLemmas.{not-distinct}
use Rattle.store_state.proofs.fits_define.are_distinct.Goals as goal

pub returns-in-Some-place_of : goal.returns-in-Some-place_of
returns-in-Some-place_of c =
    sym (not-distinct c.in-Some.definition.now c.in-Some.more.now c.in-Some-place_of._place c.in-Some-place_of.ensures.first)
    ∙ ap are_distinct (sym c.in-Some.ensures.cases.0)
    ∙ c.loop-definition.invariant
