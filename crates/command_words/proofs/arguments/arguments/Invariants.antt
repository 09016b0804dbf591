use Rattle.std.proofs.Common.{◌≡◌, length, map, string_bytes}
use Rattle.command_words.specs.Arguments.{arguments}
use Rattle.command_words.proofs.ArgumentLemmas.{behind}
use Rattle.command_words.proofs.arguments.arguments.Given as goal

abbrev pub invariant-loop-word : goal.invariant-loop-word
invariant-loop-word l = arguments (map string_bytes l.words) ≡ behind l.list.items (arguments (map string_bytes l.left))

abbrev pub decreases-loop-word : goal.decreases-loop-word
decreases-loop-word l = length l.left
