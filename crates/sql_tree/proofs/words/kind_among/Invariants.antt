use Rattle.std.proofs.Common.{◌≡◌, length}
use Rattle.sql_tree.specs.Lexemes.{kind_among}
use Rattle.sql_tree.proofs.words.kind_among.Given as goal

abbrev pub invariant-loop-kinds : goal.invariant-loop-kinds
invariant-loop-kinds l = kind_among l.kinds l.word ≡ kind_among l.initial.kinds l.word

abbrev pub decreases-loop-kinds : goal.decreases-loop-kinds
decreases-loop-kinds l = length l.kinds
