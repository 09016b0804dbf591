use Rattle.std.proofs.Common.{◌∙◌, sym, arith}
use Rattle.std.proofs.lemmas.Bool.Decides.{nat_tests}
use Rattle.command_words.proofs.NumberLemmas.{parsed}
use Rattle.command_words.proofs.number.number.Goals as goal

pub returns-then-word-le20 : goal.returns-then-word-le20
returns-then-word-le20 c = c.ok.ensures.value ∙ parsed c.args.word.now c.parse.result c.parse.ensures.value.0 (sym c.if-is_numeral.ensures) (grind (arith, nat_tests, c.if-word-le20.true))
