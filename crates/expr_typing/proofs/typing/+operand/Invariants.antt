use Rattle.std.proofs.Common.{◌≡◌, drop}
use Rattle.std.specs.Prelude.{map}
use Rattle.expr_typing.specs.Typing as spec
use Rattle.expr_typing.proofs.typing.+operand.Given as goal

-- the arms so far, and then those that are left
abbrev pub invariant-branches_of-loop-arm : goal.invariant-branches_of-loop-arm
invariant-branches_of-loop-arm l = spec.all_from l.branches (map (spec.branch_of l.columns) (drop l.arm-index l.arms)) ≡ spec.all (map (spec.branch_of l.columns) l.arms)

-- the operands so far, and then those that are left
abbrev pub invariant-operands_of-loop-tree : goal.invariant-operands_of-loop-tree
invariant-operands_of-loop-tree l = spec.all_from l.operands (map (spec.operand_of l.columns) (drop l.tree-index l.list)) ≡ spec.all (map (spec.operand_of l.columns) l.list)
