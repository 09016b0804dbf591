use Rattle.std.proofs.Common.{◌≡◌, Some, map}
use Rattle.column_checks.proofs.by_name.slots_of.Given as goal

-- the items so far
abbrev pub invariant-loop-item : goal.invariant-loop-item
invariant-loop-item g l = l.slots.items ≡ map Some l.yielded
