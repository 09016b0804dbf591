use Rattle.std.proofs.Common.{◌≡◌, ◌+◌}
use Rattle.table_versions.proofs.rows.count_rows.Given as goal

-- one look for each row so far
abbrev pub invariant-loop-row : goal.invariant-loop-row
invariant-loop-row g l = l.steps ≡ l.fn.steps + l._row-index
