use Rattle.std.proofs.Common.{◌≡◌, take}
use Rattle.table_versions.proofs.rows.copies_of.Given as goal

-- the changes so far are copied
abbrev pub invariant-loop-change : goal.invariant-loop-change
invariant-loop-change l = l.copies ≡ take l.change-index l.changes
