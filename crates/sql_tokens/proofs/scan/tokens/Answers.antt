use Rattle.std.proofs.Common.{arith}
use Rattle.std.proofs.lemmas.Str.{utf8_valid_len-IsUtf8}
use Rattle.sql_tokens.proofs.scan.tokens.Goals as goal

pub returns-in-Ok-clause-not_utf8 : goal.returns-in-Ok-clause-not_utf8
returns-in-Ok-clause-not_utf8 c short broken = absurd (omega (arith, utf8_valid_len-IsUtf8 c.args.text.now c.in-Ok.ensures.cases.1))
