use Rattle.std.proofs.Common.{◌≡◌, ◌++◌, true, drop}
use Rattle.value_core.specs.Tallies.{added}
use Rattle.state_model.specs.Follows.{counts_fit}
use Rattle.store_tables.proofs.part.added.Given as goal

abbrev pub invariant-loop-kept : goal.invariant-loop-kept
invariant-loop-kept l = record {
  fits : counts_fit (drop l.kept-index l.counts) l.rest ≡ true;
  sums_are : l.sums ++ added (drop l.kept-index l.counts) l.rest ≡ added l.counts l.more;
}
