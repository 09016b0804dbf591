use Rattle.std.proofs.Common.{◌≡◌, take}
use Rattle.select_checks.specs.Expecting.{expectations_given}
use Rattle.select_checks.proofs.expectations.expectations_given.Given as goal

-- the expectations so far
abbrev pub invariant-loop-item : goal.invariant-loop-item
invariant-loop-item l = l.expectations ≡ expectations_given l.columns (take l.item-index l.items)
