use Rattle.std.proofs.Common.{◌≡◌, ◌++◌, false, length}
use Rattle.sql_lexemes.specs.Lexing.{unescaped}
use Rattle.sql_lexemes.proofs.lexing.unescaped.Given as goal

-- what was meant so far, and what the rest means
abbrev pub invariant-loop-bytes : goal.invariant-loop-bytes
invariant-loop-bytes l = l.meant.items ++ unescaped l.is_escaped l.bytes ≡ unescaped false l.initial.bytes

abbrev pub decreases-loop-bytes : goal.decreases-loop-bytes
decreases-loop-bytes l = length l.bytes
