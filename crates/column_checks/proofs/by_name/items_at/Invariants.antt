use Rattle.std.proofs.Common.{◌≡◌, ◌++◌, drop}
use Rattle.column_checks.specs.ByName.{taken_from, items_placed}
use Rattle.column_checks.proofs.by_name.items_at.Given as goal

-- those that were taken and those that are left are all
abbrev pub invariant-loop-place : goal.invariant-loop-place
invariant-loop-place g l = l.taken.items ++ taken_from l.slots.items (drop l.place-index l.places) ≡ taken_from l.initial.slots.items l.places
