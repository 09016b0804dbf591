use Rattle.std.proofs.Common.{◌≡◌, true, false, sym, ◌∙◌}
use Rattle.store_tables.proofs.WalkLemmas.{counts-left}
use Rattle.store_tables.proofs.part.added.Goals as goal

pub returns-in_default : goal.returns-in_default
returns-in_default c =
    let wrong : true ≡ false = sym c.loop-kept.invariant.fits ∙ counts-left c.args.counts.now c.loop-kept.rest.now c.loop-kept.kept-index c.loop-kept-test.true c.in_default.ensures.cases in
    cc
