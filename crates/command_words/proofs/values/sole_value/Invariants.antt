use Rattle.std.proofs.Common.{◌≡◌, drop}
use Rattle.std.specs.Option.{option_copied}
use Rattle.command_words.specs.Values.{at_most_one, values}
use Rattle.command_words.proofs.ValueLemmas.{onto}
use Rattle.command_words.proofs.values.sole_value.Given as goal

abbrev pub invariant-loop-argument : goal.invariant-loop-argument
invariant-loop-argument l = at_most_one (values l.option l.list) ≡ at_most_one (onto (option_copied l.found) (values l.option (drop l.argument-index l.list)))
