use Rattle.std.proofs.Common.{◌≡◌}
use Rattle.std.specs.Prelude.{map}
use Rattle.expr_typing.specs.Typing as spec
use Rattle.expr_typing.proofs.operand.all_widened_to.Given as goal

-- the operands so far are widened
abbrev pub invariant-loop-operand : goal.invariant-loop-operand
invariant-loop-operand l = l.list ≡ map (spec.widened_to l.joined) l.yielded
