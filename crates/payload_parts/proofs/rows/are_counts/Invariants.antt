use Rattle.std.proofs.Common.{◌≡◌, drop}
use Rattle.std.specs.Prelude.{map}
use Rattle.state_model.specs.After.{no_tally}
use Rattle.state_model.specs.Follows.{counts_fit}
use Rattle.payload_parts.proofs.rows.are_counts.Given as goal

-- the counts that are left have the answer
abbrev pub invariant-loop-expectation : goal.invariant-loop-expectation
invariant-loop-expectation l = counts_fit (map no_tally (drop l._expectation-index l.expectations)) l.rest ≡ counts_fit (map no_tally l.expectations) l.counts
