use Rattle.std.proofs.Common.{◌≡◌}
use Rattle.std.specs.Prelude.{map}
use Rattle.expr_typing.specs.Typing as spec
use Rattle.expr_typing.proofs.operand.arms_widened_to.Given as goal

-- the arms so far are widened
abbrev pub invariant-loop-branch : goal.invariant-loop-branch
invariant-loop-branch l = l.list ≡ map (spec.widened_arm l.joined) l.yielded
