use Rattle.std.proofs.Common.{◌≡◌, drop}
use Rattle.command_words.specs.Values.{values}
use Rattle.command_words.proofs.values.lacks.Given as goal

abbrev pub invariant-loop-argument : goal.invariant-loop-argument
invariant-loop-argument l = values l.option l.list ≡ values l.option (drop l.argument-index l.list)
