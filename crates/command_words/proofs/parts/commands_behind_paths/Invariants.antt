use Rattle.std.proofs.Common.{◌≡◌, length, map, string_bytes}
use Rattle.command_words.specs.Parts.{each_command, parts}
use Rattle.command_words.proofs.PartLemmas.{behind}
use Rattle.command_words.proofs.parts.commands_behind_paths.Given as goal

abbrev pub invariant-loop-commands : goal.invariant-loop-commands
invariant-loop-commands l = each_command (parts (map string_bytes l.words)) ≡ behind l.commands.items (each_command (parts (map string_bytes l.left)))

abbrev pub decreases-loop-commands : goal.decreases-loop-commands
decreases-loop-commands l = length l.left
