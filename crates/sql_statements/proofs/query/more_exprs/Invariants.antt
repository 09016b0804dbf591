use Rattle.std.proofs.Common.{◌≡◌, ◌-◌, length}
use Rattle.sql_tree.specs.declared.lexeme.LexemeKind.TheVariants as k
use Rattle.sql_statements.specs.Parsers.{rest_from}
use Rattle.sql_statements.specs.Limits.{limited}
use Rattle.sql_statements.proofs.query.more_exprs.Given as goal

abbrev pub invariant-loop-turn : goal.invariant-loop-turn
invariant-loop-turn l = rest_from k.Comma limited (length l.fn.reader) l.fn.first l.fn.reader ≡ rest_from k.Comma limited (l._turn-end - l._turn) l.found l.reader
