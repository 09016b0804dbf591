use Rattle.sql_lexemes.proofs.Slicing.{readable}
use Rattle.sql_lexemes.proofs.lexing.lexeme_of.Goals as goal

pub lexeme-requires : goal.lexeme-requires
lexeme-requires c = readable c.args.text.now c.args.token.now c.requires.utf8 c.requires.within c.requires.slice
