use Rattle.std.proofs.Common.{◌≡◌, drop}
use Rattle.std.specs.Prelude.{map}
use Rattle.row_expr.specs.Kinds as spec
use Rattle.row_expr.proofs.sort.+sort.Given as goal

-- the operands that are left are joined to those so far
abbrev pub invariant-join_all-loop-operand : goal.invariant-join_all-loop-operand
invariant-join_all-loop-operand l = spec.join_from l.joined (map spec.sort_of (drop l.operand-index l.operands)) ≡ spec.join_all (map spec.sort_of l.operands)

-- the arms that are left are joined to those so far
abbrev pub invariant-join_results-loop-arm : goal.invariant-join_results-loop-arm
invariant-join_results-loop-arm l = spec.join_results_from l.joined (map spec.arm_sort (drop l.arm-index l.arms)) ≡ spec.join_results (map spec.arm_sort l.arms)
