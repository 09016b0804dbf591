use Rattle.std.proofs.Common.{◌≡◌, drop}
use Rattle.std.specs.Prelude.{map}
use Rattle.select_names.specs.Aggregates as spec
use Rattle.select_names.proofs.aggregates.+aggregate.Given as goal

-- no expression so far has an aggregate
abbrev pub invariant-any_aggregate-loop-tree : goal.invariant-any_aggregate-loop-tree
invariant-any_aggregate-loop-tree l = spec.any_part (map spec.has_aggregate (drop l.tree-index l.list)) ≡ spec.any_part (map spec.has_aggregate l.list)

-- no arm so far has an aggregate
abbrev pub invariant-any_arm_aggregate-loop-arm : goal.invariant-any_arm_aggregate-loop-arm
invariant-any_arm_aggregate-loop-arm l = spec.any_part (map spec.arm_has_aggregate (drop l.arm-index l.arms)) ≡ spec.any_part (map spec.arm_has_aggregate l.arms)
