use Rattle.std.proofs.Common.{refl}
use Rattle.cdc_scd2.proofs.laws.touches_are_worked.Goals as goal

pub returns : goal.returns
returns c = record { long_history = refl; late_split = refl; late_null = refl; late_repeat = refl }
