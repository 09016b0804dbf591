use Rattle.std.proofs.Common.{◌≡◌, take}
use Rattle.value_core.proofs.cursor.FilePlaces.copy.Given as goal

-- the places so far are copied
abbrev pub invariant-loop-place : goal.invariant-loop-place
invariant-loop-place l = l.copy ≡ take l.place-index l.place-items
