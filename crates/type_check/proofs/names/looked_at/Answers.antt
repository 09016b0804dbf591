use Rattle.std.proofs.Common.{sym, arith}
use Rattle.std.proofs.lemmas.List.{take_all}
use Rattle.type_check.proofs.names.looked_at.Goals as goal

pub returns-else-columns-gt-MAX_COLUMNS : goal.returns-else-columns-gt-MAX_COLUMNS
returns-else-columns-gt-MAX_COLUMNS c = sym (take_all 257 c.args.columns.now (omega (arith, c.if-columns-gt-MAX_COLUMNS.false)))
