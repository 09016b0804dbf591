use Rattle.std.proofs.Common.{◌≡◌, drop}
use Rattle.std.specs.Prelude.{map}
use Rattle.expr_typing.specs.Typing as spec
use Rattle.expr_typing.proofs.operand.wide_join_all.Given as goal

-- the operands that are left are joined to those so far
abbrev pub invariant-loop-operand : goal.invariant-loop-operand
invariant-loop-operand l = spec.wide_join_from l.joined (map (λ a. a.sort) (drop l.operand-index l.operands)) ≡ spec.wide_join_all l.operands
