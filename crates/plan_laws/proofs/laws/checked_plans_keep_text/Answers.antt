use Rattle.plan_laws.proofs.TextKept.{plan_keeps}
use Rattle.plan_laws.proofs.laws.checked_plans_keep_text.Goals as goal

pub returns : goal.returns
returns c = plan_keeps c.rescued_columns_are_texts.ensures
