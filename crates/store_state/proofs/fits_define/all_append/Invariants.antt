use Rattle.std.proofs.Common.{◌≡◌, drop}
use Rattle.store_state.specs.Follows.{all_append}
use Rattle.store_state.proofs.fits_define.all_append.Given as goal

abbrev pub invariant-loop-definition : goal.invariant-loop-definition
invariant-loop-definition l = all_append (drop l.definition-index l.list) ≡ all_append l.list
