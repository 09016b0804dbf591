use Rattle.std.proofs.Common.{◌≡◌, ◌∙◌, ◌∷◌, sym, ap, map, drop, if◌then◌else◌, string_bytes}
use Rattle.std.specs.Option.{is_some}
use Rattle.command_words.specs.Arguments.{arguments, option_named}
use Rattle.command_words.proofs.ArgumentLemmas.{map_rest, more_arguments}
use Rattle.command_words.proofs.arguments.arguments.Goals as goal

pub loop-word-preserved : goal.loop-word-preserved
loop-word-preserved c =
    let behind = c.in-Some.behind.now in
    rw c.in_ok-push.ensures.items
    (more_arguments (arguments (map string_bytes c.args.words.now)) c.loop-word.list.items c.as_str.result.now (map string_bytes behind) (map string_bytes c.loop-word.left.now) (map string_bytes c.words_behind-left.result.now) c.in-Some-2.argument
    c.loop-word.invariant
    (ap (map string_bytes) c.in-Some.ensures.cases.0 ∙ ap (λ word. word ∷ map string_bytes behind) (sym c.as_str.ensures.value))
    (sym c.in-Some-2.is ∙ c.in_ok-argument.ensures)
    (ap (map string_bytes) c.words_behind-left.ensures ∙ map_rest string_bytes (is_some (option_named c.as_str-in-Some.result.now)) behind
    ∙ ap (λ word. if is_some (option_named word) then drop 1 (map string_bytes behind) else map string_bytes behind) (c.as_str-in-Some.ensures.value ∙ sym c.as_str.ensures.value)))
