use Rattle.std.proofs.Common.{◌≡◌, length}
use Rattle.store_state.specs.Follows.{are_distinct}
use Rattle.store_state.proofs.fits_define.are_distinct.Given as goal

abbrev pub invariant-loop-definition : goal.invariant-loop-definition
invariant-loop-definition l = are_distinct l.rest ≡ are_distinct l.fn.list

abbrev pub decreases-loop-definition : goal.decreases-loop-definition
decreases-loop-definition l = length l.rest
