use Rattle.std.proofs.Common.{sym, ◌∙◌}
use Rattle.store_state.proofs.WalkLemmas.{counts-left}
use Rattle.store_state.proofs.fits_take.counts_fit.Goals as goal

pub returns-in_default : goal.returns-in_default
returns-in_default c = sym (counts-left c.args.counts.now c.loop-kept.rest.now c.loop-kept.kept-index c.loop-kept-test.true c.in_default.ensures.cases) ∙ c.loop-kept.invariant
