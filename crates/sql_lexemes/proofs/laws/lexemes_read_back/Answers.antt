use Rattle.sql_lexemes.proofs.Readback.{reads_back}
use Rattle.sql_lexemes.proofs.Spelled.{spelled_utf8}
use Rattle.sql_lexemes.proofs.laws.lexemes_read_back.Goals as goal

pub returns-clause-read : goal.returns-clause-read
returns-clause-read c = reads_back

pub returns-clause-utf8 : goal.returns-clause-utf8
returns-clause-utf8 c = spelled_utf8
