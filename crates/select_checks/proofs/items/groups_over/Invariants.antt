use Rattle.std.proofs.Common.{◌≡◌, take}
use Rattle.select_checks.specs.Views.{groups_over}
use Rattle.select_checks.proofs.items.groups_over.Given as goal

-- the groups so far
abbrev pub invariant-loop-tree : goal.invariant-loop-tree
invariant-loop-tree l = l.groups ≡ groups_over l.source (take l.tree-index l.trees)
