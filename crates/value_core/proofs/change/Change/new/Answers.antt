use Rattle.std.proofs.Common.{refl}
use Rattle.value_core.proofs.change.Change.new.Goals as goal

pub returns-then-is_change : goal.returns-then-is_change
returns-then-is_change c = (c.if-is_change.ensures.0 refl, refl)
