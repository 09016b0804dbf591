use Rattle.std.proofs.Common.{◌∙◌, [], ◌∷◌, map, sym, ap}
use Rattle.std.specs.Prelude.{codes}
use Rattle.sql_tree.specs.Print.{word, string, separated, option_print}
use Rattle.sql_print.specs.Writing.{put, puts}
use Rattle.sql_print.proofs.PutLemmas.{ends, left, right, flat_call}
use Rattle.sql_print.proofs.statements.read_files.Goals as goal

pub returns : goal.returns
returns c =
    let inside = separated ((string c.args.path.now ∷ []) ∷ map option_print c.args.options.now) in
    ends _ _ _ _ c.token-2.ensures (ap (λ w. put w right) (c.in_ok-files.ensures ∙ ap (λ w. puts w inside) (c.in_ok-token.ensures ∙ ap (λ w. put w left) c.in_ok-word.ensures)) ∙
    sym (flat_call c.args.out.now (word (codes "read_files")) inside))
