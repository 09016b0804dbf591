use Rattle.std.proofs.Common.{◌≡◌, ◌∙◌, ◌+◌, [], ◌∷◌, true, map, drop, sym, ap}
use Rattle.std.proofs.lemmas.List.{drop_more, drop_all}
use Rattle.sql_tree.specs.Print.{statement_print}
use Rattle.sql_print.specs.Writing.{puts}
use Rattle.sql_print.proofs.PutLemmas.{semicolons, semicolons_more, no_semicolons, print_is}
use Rattle.sql_print.proofs.statements.all.Goals as goal

pub loop-tree-preserved : goal.loop-tree-preserved
loop-tree-preserved c =
    let s = c.loop-tree in
    let list = c.args.list.now in
    let rest = map statement_print (drop (s.tree-index + 1) list) in
    let item : drop s.tree-index list ≡ c.tree-item.result ∷ drop (s.tree-index + 1) list =
    (drop_more list s.tree-index c.tree-item.result c.loop-tree-test.true ∙ ap (λ x. x ∷ drop (s.tree-index + 1) list) (sym c.tree-item.is)) in
    ap (λ w. puts w (semicolons true rest)) (c.in_ok-statement.ensures ∙ ap (λ w. puts w (statement_print c.tree-item.result)) c.in_ok-token_if.ensures) ∙
    sym (semicolons_more s.out s.goes_on (statement_print c.tree-item.result) rest) ∙ ap (λ ls. puts s.out (semicolons s.goes_on (map statement_print ls))) (sym item) ∙ s.invariant

pub returns : goal.returns
returns c =
    let s = c.loop-tree in
    let none : drop s.tree-index c.args.list.now ≡ [] = drop_all s.tree-index c.args.list.now c.loop-tree-test.false in
    ap (puts s.out) (sym (no_semicolons s.goes_on)) ∙ ap (λ ls. puts s.out (semicolons s.goes_on (map statement_print ls))) (sym none) ∙ s.invariant ∙ ap (puts c.args.out.now) (sym (print_is c.args.list.now))
