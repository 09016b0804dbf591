use Rattle.std.proofs.Common.{◌≡◌, length, map, string_bytes}
use Rattle.pipeline_run.specs.Command.{each_command, parts}
use Rattle.pipeline_run.proofs.WordLemmas.{behind}
use Rattle.pipeline_run.proofs.command.commands_behind_paths.Given as goal

abbrev pub invariant-loop-command : goal.invariant-loop-command
invariant-loop-command l = each_command (parts (map string_bytes l.words)) ≡ behind l.commands.items (each_command (parts (map string_bytes l.left)))

abbrev pub decreases-loop-command : goal.decreases-loop-command
decreases-loop-command l = length l.left
