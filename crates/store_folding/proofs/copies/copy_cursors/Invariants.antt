use Rattle.std.proofs.Common.{◌≡◌, take}
use Rattle.store_folding.proofs.copies.copy_cursors.Given as goal

abbrev pub invariant-loop-cursor : goal.invariant-loop-cursor
invariant-loop-cursor l = l.copies ≡ take l.cursor-index l.cursors
