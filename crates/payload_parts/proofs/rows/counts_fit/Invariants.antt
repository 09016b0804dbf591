use Rattle.std.proofs.Common.{◌≡◌, drop}
use Rattle.state_model.specs.Follows.{counts_fit}
use Rattle.payload_parts.proofs.rows.counts_fit.Given as goal

abbrev pub invariant-loop-kept : goal.invariant-loop-kept
invariant-loop-kept l = counts_fit (drop l.kept-index l.counts) l.rest ≡ counts_fit l.counts l.more
