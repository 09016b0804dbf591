use Rattle.std.proofs.Common.{◌≡◌, ◌++◌, drop}
use Rattle.report_text.specs.Metrics.{tally_lines}
use Rattle.report_text.proofs.metrics.put_tally_lines.Given as goal

-- with the lines that are left there are all of them
abbrev pub invariant-loop-expectation : goal.invariant-loop-expectation
invariant-loop-expectation l = l.out.items ++ tally_lines l.dataset (drop l.expectation-index l.expectations) l.rest ≡ l.initial.out.items ++ tally_lines l.dataset l.expectations l.tallies
