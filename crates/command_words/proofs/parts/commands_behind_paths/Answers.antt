use Rattle.std.proofs.Common.{◌≡◌, ◌∙◌, ◌∷◌, sym, ap, map, string_bytes, take}
use Rattle.command_words.specs.Commands.{command_of}
use Rattle.command_words.specs.Parts.{each_command, parts}
use Rattle.command_words.proofs.PartLemmas.{behind_place, more_commands}
use Rattle.command_words.proofs.parts.commands_behind_paths.Goals as goal

pub loop-commands-preserved : goal.loop-commands-preserved
loop-commands-preserved c =
    let left = c.loop-commands.left.now in
    let place = behind_place left c.count_before_then.result c.in-Some-split_first._then.now c.in-Some-split_first.behind.now (sym c.split_at.ensures.back ∙ c.in-Some-split_first.ensures.cases.0) in
    rw c.in_ok-push.ensures.items
    (more_commands (each_command (parts (map string_bytes c.args.words.now))) c.loop-commands.commands.items (map string_bytes left) (map string_bytes (take c.count_before_then.result left)) (map string_bytes c.in-Some-split_first.behind.now) c.in-Some.command
    c.loop-commands.invariant
    (c.count_before_then.ensures.cut place.0 ∙ ap (λ rest. map string_bytes (take c.count_before_then.result left) ∷ parts (map string_bytes rest)) place.1)
    (sym c.in-Some.is ∙ c.in_ok-command.ensures ∙ ap (λ part. command_of (map string_bytes part)) c.split_at.ensures.front))
