use Rattle.std.proofs.Common.{◌++◌, string_bytes, encode_utf8, encode_utf8_all, sym, ap, ◌∙◌, append_assoc}
use Rattle.sql_tree.specs.Spelling.{escaped}
use Rattle.sql_print.proofs.EscapeLemmas.{escaped_more}
use Rattle.sql_print.proofs.writer.push_escaped.Goals as goal

pub loop-c-preserved : goal.loop-c-preserved
loop-c-preserved c =
    let l = c.loop-c in
    c.in_ok-push_char.ensures ∙ ap (λ s. s ++ escaped (encode_utf8 c.in-Some.c)) l.invariant ∙ append_assoc (string_bytes c.args.text.now) (escaped (encode_utf8_all l.yielded)) (escaped (encode_utf8 c.in-Some.c)) ∙
    ap (λ s. string_bytes c.args.text.now ++ s) (sym (escaped_more l.yielded c.in-Some.c))
