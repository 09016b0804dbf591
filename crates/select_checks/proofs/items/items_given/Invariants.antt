use Rattle.std.proofs.Common.{◌≡◌}
use Rattle.select_checks.specs.Views.{items_given}
use Rattle.select_checks.proofs.items.items_given.Given as goal

-- the items so far
abbrev pub invariant-loop-output : goal.invariant-loop-output
invariant-loop-output l = l.items ≡ items_given l.yielded
