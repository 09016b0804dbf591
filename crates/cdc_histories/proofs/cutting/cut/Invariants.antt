use Rattle.std.proofs.Common.{◌≡◌, ◌++◌, length}
use Rattle.cdc_histories.specs.Building.{cut_by_key}
use Rattle.cdc_histories.proofs.cutting.cut.Given as goal

abbrev pub invariant-loop-first : goal.invariant-loop-first
invariant-loop-first l = l.parts.items ++ cut_by_key l.left ≡ cut_by_key l.events

abbrev pub decreases-loop-first : goal.decreases-loop-first
decreases-loop-first l = length l.left
