use Rattle.std.proofs.Common.{◌≡◌}
use Rattle.select_checks.specs.Views.{group_exprs}
use Rattle.select_checks.proofs.items.group_exprs.Given as goal

-- the expressions so far
abbrev pub invariant-loop-group : goal.invariant-loop-group
invariant-loop-group l = l.exprs ≡ group_exprs l.yielded
