use Rattle.std.proofs.Common.{◌≡◌, ◌-◌, length}
use Rattle.sql_tree.specs.declared.lexeme.LexemeKind.TheVariants as k
use Rattle.sql_phrases.specs.Tokens.{name_of}
use Rattle.sql_statements.specs.Parsers.{token, rest_from}
use Rattle.sql_statements.proofs.part.more_names.Given as goal

abbrev pub invariant-loop-turn : goal.invariant-loop-turn
invariant-loop-turn l = rest_from k.Comma (token name_of) (length l.fn.reader) l.fn.first l.fn.reader ≡ rest_from k.Comma (token name_of) (l._turn-end - l._turn) l.found l.reader
