use Rattle.std.proofs.Common.{◌≡◌, drop}
use Rattle.std.specs.List.{list_all}
use Rattle.select_checks.specs.Views.{is_kinded_tree}
use Rattle.select_checks.proofs.items.are_kinded_trees.Given as goal

-- each group so far has a kind
abbrev pub invariant-loop-tree : goal.invariant-loop-tree
invariant-loop-tree l = list_all (is_kinded_tree l.source) (drop l.tree-index l.trees) ≡ list_all (is_kinded_tree l.source) l.trees
