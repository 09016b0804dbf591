use Rattle.std.proofs.Common.{◌≡◌, ◌-◌, length}
use Rattle.sql_statements.specs.Descent.{statements_from}
use Rattle.sql_statements.specs.Limits.{limited}
use Rattle.sql_statements.proofs.entry.more_statements.Given as goal

abbrev pub invariant-loop-turn : goal.invariant-loop-turn
invariant-loop-turn l = statements_from limited (length l.fn.reader) l.fn.first l.fn.reader ≡ statements_from limited (l._turn-end - l._turn) l.found l.reader
