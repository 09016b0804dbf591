use Rattle.std.proofs.Common.{◌≡◌, ◌-◌}
use Rattle.sql_tree.specs.declared.lexeme.LexemeKind.TheVariants as k
use Rattle.sql_statements.specs.Descent.{option, options}
use Rattle.sql_statements.specs.Parsers.{rest_from}
use Rattle.sql_statements.proofs.part.options.Given as goal

abbrev pub invariant-loop-turn : goal.invariant-loop-turn
invariant-loop-turn l = options l.fn.reader ≡ rest_from k.Comma option (l._turn-end - l._turn) l.found l.reader
