use Rattle.std.proofs.Common.{◌≡◌, drop}
use Rattle.std.specs.Option.{option_copied}
use Rattle.command_words.specs.Values.{at_most_one, operands}
use Rattle.command_words.proofs.ValueLemmas.{onto}
use Rattle.command_words.proofs.values.sole_operand.Given as goal

abbrev pub invariant-loop-argument : goal.invariant-loop-argument
invariant-loop-argument l = at_most_one (operands l.list) ≡ at_most_one (onto (option_copied l.found) (operands (drop l.argument-index l.list)))
