-- What a reader shows: the tokens that are left.
use Rattle.std.specs.Prelude.{List}
use Rattle.sql_tree.specs.declared.lexeme.Lexeme.{Lexeme}
use Rattle.sql_phrases.specs.declared.reader.Reader.TheInside.{Inside}

abbrev pub tokens_left : Inside → List Lexeme
tokens_left r = r.rest.now
