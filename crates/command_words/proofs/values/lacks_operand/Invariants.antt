use Rattle.std.proofs.Common.{◌≡◌, drop}
use Rattle.command_words.specs.Values.{operands}
use Rattle.command_words.proofs.values.lacks_operand.Given as goal

abbrev pub invariant-loop-argument : goal.invariant-loop-argument
invariant-loop-argument l = operands l.list ≡ operands (drop l.argument-index l.list)
