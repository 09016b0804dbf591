use Rattle.std.proofs.Common.{sym}
use Rattle.std.proofs.lemmas.Iterator.Adapters.{position_from-zero}
use Rattle.select_checks.specs.Views.{is_outside_groups}
use Rattle.select_checks.proofs.grouping.outside_place.Goals as goal

pub loop-place-init : goal.loop-place-init
loop-place-init c = sym (position_from-zero (is_outside_groups c.args.table.now) c.args.outs.now)
