use Rattle.std.proofs.Common.{◌≡◌, drop}
use Rattle.store_state.specs.Follows.{counts_fit}
use Rattle.store_state.proofs.fits_take.counts_fit.Given as goal

abbrev pub invariant-loop-kept : goal.invariant-loop-kept
invariant-loop-kept l = counts_fit (drop l.kept-index l.counts) l.rest ≡ counts_fit l.counts l.more
