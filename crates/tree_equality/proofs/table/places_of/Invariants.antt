use Rattle.std.proofs.Common.{take}
use Rattle.tree_equality.specs.TreeCodes.{ArePlaced}
use Rattle.tree_equality.proofs.table.places_of.Given as goal

-- the expressions so far are placed
abbrev pub invariant-loop-place : goal.invariant-loop-place
invariant-loop-place l = ArePlaced (λ key. key.items) l.places.entries (take l.place l.trees)
