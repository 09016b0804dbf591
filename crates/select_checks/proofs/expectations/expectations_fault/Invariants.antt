use Rattle.std.proofs.Common.{◌≡◌, drop, map}
use Rattle.statement_checks.specs.Repeats.{first_of}
use Rattle.select_checks.specs.Expecting.{expectation_fault}
use Rattle.select_checks.proofs.expectations.expectations_fault.Given as goal

-- no expectation so far breaks a check
abbrev pub invariant-loop-item : goal.invariant-loop-item
invariant-loop-item l = first_of (map (expectation_fault l.columns) (drop l.item-index l.items)) ≡ first_of (map (expectation_fault l.columns) l.items)
