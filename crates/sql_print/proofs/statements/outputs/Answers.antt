use Rattle.std.proofs.Common.{◌≡◌, ◌∙◌, ◌+◌, [], ◌∷◌, true, map, drop, sym, ap}
use Rattle.std.proofs.lemmas.List.{drop_more, drop_all}
use Rattle.sql_tree.specs.Print.{out_print}
use Rattle.sql_print.specs.Writing.{puts}
use Rattle.sql_print.proofs.PutLemmas.{commas, commas_more, no_commas, separated_is}
use Rattle.sql_print.proofs.statements.outputs.Goals as goal

pub loop-one-preserved : goal.loop-one-preserved
loop-one-preserved c =
    let s = c.loop-one in
    let list = c.args.list.now in
    let rest = map out_print (drop (s.one-index + 1) list) in
    let item : drop s.one-index list ≡ c.one-item.result ∷ drop (s.one-index + 1) list =
    (drop_more list s.one-index c.one-item.result c.loop-one-test.true ∙ ap (λ x. x ∷ drop (s.one-index + 1) list) (sym c.one-item.is)) in
    ap (λ w. puts w (commas true rest)) (c.in_ok-output.ensures ∙ ap (λ w. puts w (out_print c.one-item.result)) c.in_ok-token_if.ensures) ∙
    sym (commas_more s.out s.goes_on (out_print c.one-item.result) rest) ∙ ap (λ ls. puts s.out (commas s.goes_on (map out_print ls))) (sym item) ∙ s.invariant

pub returns : goal.returns
returns c =
    let s = c.loop-one in
    let none : drop s.one-index c.args.list.now ≡ [] = drop_all s.one-index c.args.list.now c.loop-one-test.false in
    ap (puts s.out) (sym (no_commas s.goes_on)) ∙ ap (λ ls. puts s.out (commas s.goes_on (map out_print ls))) (sym none) ∙ s.invariant ∙ ap (puts c.args.out.now) (sym (separated_is (map out_print c.args.list.now)))
