use Rattle.std.proofs.Common.{◌≡◌, ◌∙◌, ◌+◌, [], ◌∷◌, true, map, drop, sym, ap}
use Rattle.std.proofs.lemmas.List.{drop_more, drop_all}
use Rattle.sql_tree.specs.Print.{one_name}
use Rattle.sql_print.specs.Writing.{puts}
use Rattle.sql_print.proofs.PutLemmas.{commas, commas_more, no_commas, separated_is}
use Rattle.sql_print.proofs.statements.comma_names.Goals as goal

pub loop-name-preserved : goal.loop-name-preserved
loop-name-preserved c =
    let s = c.loop-name in
    let list = c.args.list.now in
    let rest = map one_name (drop (s.name-index + 1) list) in
    let item : drop s.name-index list ≡ c.name-item.result ∷ drop (s.name-index + 1) list =
    (drop_more list s.name-index c.name-item.result c.loop-name-test.true ∙ ap (λ x. x ∷ drop (s.name-index + 1) list) (sym c.name-item.is)) in
    ap (λ w. puts w (commas true rest)) (c.in_ok-name.ensures ∙ ap (λ w. puts w (one_name c.name-item.result)) c.in_ok-token_if.ensures) ∙
    sym (commas_more s.out s.goes_on (one_name c.name-item.result) rest) ∙ ap (λ ls. puts s.out (commas s.goes_on (map one_name ls))) (sym item) ∙ s.invariant

pub returns : goal.returns
returns c =
    let s = c.loop-name in
    let none : drop s.name-index c.args.list.now ≡ [] = drop_all s.name-index c.args.list.now c.loop-name-test.false in
    ap (puts s.out) (sym (no_commas s.goes_on)) ∙ ap (λ ls. puts s.out (commas s.goes_on (map one_name ls))) (sym none) ∙ s.invariant ∙ ap (puts c.args.out.now) (sym (separated_is (map one_name c.args.list.now)))
