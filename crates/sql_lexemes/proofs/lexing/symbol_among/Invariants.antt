use Rattle.std.proofs.Common.{◌≡◌, length}
use Rattle.sql_lexemes.specs.Lexing.{symbol_among}
use Rattle.sql_lexemes.proofs.lexing.symbol_among.Given as goal

abbrev pub invariant-loop-kinds : goal.invariant-loop-kinds
invariant-loop-kinds l = symbol_among l.kinds l.bytes ≡ symbol_among l.initial.kinds l.bytes

abbrev pub decreases-loop-kinds : goal.decreases-loop-kinds
decreases-loop-kinds l = length l.kinds
