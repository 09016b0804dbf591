use Rattle.std.proofs.Common.{sym, ap, ◌∙◌, subst, IsUtf8, false}
use Rattle.sql_lexemes.specs.Lexing.{unescaped, inside}
use Rattle.sql_lexemes.proofs.Utf8.{IsUtf8-unescaped}
use Rattle.sql_lexemes.proofs.lexing.string_text.Goals as goal

pub text_of-requires : goal.text_of-requires
text_of-requires c = subst IsUtf8 (sym (c.as_slice.ensures.value ∙ c.in_ok-meant.ensures ∙ ap (unescaped false) c.inside.ensures)) (IsUtf8-unescaped (inside c.args.bytes.now) c.requires)
