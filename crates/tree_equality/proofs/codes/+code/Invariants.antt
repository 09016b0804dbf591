use Rattle.std.proofs.Common.{◌≡◌, ℕ, List, drop}
use Rattle.std.specs.Prelude.{map}
use Rattle.tree_equality.specs.TreeCodes.{Spells, put_all, code_behind, arm_code_behind}
use Rattle.tree_equality.proofs.codes.+code.Given as goal

-- what is left makes of the code so far what all make of the first code
abbrev pub invariant-put_list-loop-tree : goal.invariant-put_list-loop-tree
invariant-put_list-loop-tree l = (before : List ℕ) → Spells l.initial.code before → (so_far : List ℕ) × Spells l.code so_far × (put_all (map code_behind (drop l.tree-index l.list)) so_far ≡ put_all (map code_behind l.list) before)

abbrev pub invariant-put_arms-loop-arm : goal.invariant-put_arms-loop-arm
invariant-put_arms-loop-arm l = (before : List ℕ) → Spells l.initial.code before → (so_far : List ℕ) × Spells l.code so_far × (put_all (map arm_code_behind (drop l.arm-index l.arms)) so_far ≡ put_all (map arm_code_behind l.arms) before)
