use Rattle.std.proofs.Common.{not, ap, ◌∙◌}
use Rattle.plan_core.specs.Sound.{is_empty}
use Rattle.view_groups.proofs.TouchLemmas.{is_alone}
use Rattle.view_groups.proofs.query.has_groups.Goals as goal

pub returns : goal.returns
returns c = ap not (c.is_empty.ensures ∙ is_alone c.as_slice.result.now ∙ ap is_empty c.as_slice.ensures)
