use Rattle.std.proofs.Common.{None, ◌∙◌}
use Rattle.cdc_histories.proofs.FoldLemmas.{last_is}
use Rattle.cdc_histories.proofs.folding.last_columns.Goals as goal

pub returns-in-Some : goal.returns-in-Some
returns-in-Some c = c.after.ensures ∙ last_is None c.args.entries.now c.in-Some.entry.now c.in-Some.ensures.item.3.0 c.in-Some.ensures.item.3.1
