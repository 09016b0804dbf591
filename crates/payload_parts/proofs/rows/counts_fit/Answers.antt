use Rattle.std.proofs.Common.{sym, ◌∙◌}
use Rattle.payload_parts.proofs.WalkLemmas.{counts-left}
use Rattle.payload_parts.proofs.rows.counts_fit.Goals as goal

pub returns-in_default : goal.returns-in_default
returns-in_default c = sym (counts-left c.args.counts.now c.loop-kept.rest.now c.loop-kept.kept-index c.loop-kept-test.true c.in_default.ensures.cases) ∙ c.loop-kept.invariant
