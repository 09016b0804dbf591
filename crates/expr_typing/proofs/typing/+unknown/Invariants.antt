use Rattle.std.proofs.Common.{◌≡◌, drop}
use Rattle.std.specs.Prelude.{map}
use Rattle.expr_typing.specs.Typing as spec
use Rattle.expr_typing.proofs.typing.+unknown.Given as goal

-- no arm so far has an unknown name
abbrev pub invariant-first_unknown_arm-loop-arm : goal.invariant-first_unknown_arm-loop-arm
invariant-first_unknown_arm-loop-arm l = spec.first_of (map (spec.arm_unknown l.columns) (drop l.arm-index l.arms)) ≡ spec.first_of (map (spec.arm_unknown l.columns) l.arms)

-- no expression so far has an unknown name
abbrev pub invariant-first_unknown_of-loop-tree : goal.invariant-first_unknown_of-loop-tree
invariant-first_unknown_of-loop-tree l = spec.first_of (map (spec.first_unknown l.columns) (drop l.tree-index l.list)) ≡ spec.first_of (map (spec.first_unknown l.columns) l.list)
