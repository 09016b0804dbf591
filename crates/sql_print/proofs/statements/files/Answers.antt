use Rattle.std.proofs.Common.{◌≡◌, ◌∙◌, [], ◌∷◌, true, map, drop, sym, ap}
use Rattle.std.proofs.lemmas.List.{drop_all}
use Rattle.sql_tree.specs.Print.{option_print, string}
use Rattle.sql_print.specs.Writing.{puts}
use Rattle.sql_print.proofs.PutLemmas.{commas, separated_is}
use Rattle.sql_print.proofs.statements.files.Goals as goal

pub returns : goal.returns
returns c =
    let s = c.loop-one in
    let options = c.args.options.now in
    let none : drop s.one-index options ≡ [] = drop_all s.one-index options c.loop-one-test.false in
    ap (λ ls. puts s.out (commas true (map option_print ls))) (sym none) ∙ s.invariant ∙ ap (puts c.args.out.now) (sym (separated_is ((string c.args.path.now ∷ []) ∷ map option_print options)))
