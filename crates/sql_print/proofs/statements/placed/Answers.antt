use Rattle.std.proofs.Common.{◌≡◌, ◌∙◌, ◌+◌, ◌<◌, ℕ, List, [], ◌∷◌, Some, refl, true, map, drop, sym, ap, slice_get, get_or, length}
use Rattle.std.proofs.lemmas.List.Elements.{All-get_or}
use Rattle.std.proofs.lemmas.Option.{slice_get_read}
use Rattle.std.proofs.lemmas.List.{drop_more, drop_all}
use Rattle.sql_tree.specs.declared.statement.Statement.{Statement}
use Rattle.sql_tree.specs.Print.{statement_print}
use Rattle.sql_print.specs.Placed.{statements_at}
use Rattle.sql_print.specs.Writing.{puts}
use Rattle.sql_print.proofs.PutLemmas.{semicolons, semicolons_more, no_semicolons, print_is}
use Rattle.sql_print.proofs.statements.placed.Goals as goal

-- the statement at the first place, and then those at the others
pub first_at : (list : List Statement) (at : ℕ) (places : List ℕ) (tree : Statement) → slice_get list at ≡ Some tree → statements_at list (at ∷ places) ≡ tree ∷ statements_at list places
first_at list at places tree e = rw e refl

pub loop-place-preserved : goal.loop-place-preserved
loop-place-preserved c =
    let s = c.loop-place in
    let list = c.args.list.now in
    let places = c.args.places.now in
    let at = get_or places s.place-index 0 in
    let rest = statements_at list (drop (s.place-index + 1) places) in
    let within : at < length list = All-get_or (λ i. i < length list) places s.place-index 0 c.loop-place-test.true c.requires in
    let item : statements_at list (drop s.place-index places) ≡ c.index-list-place.result ∷ rest =
    (ap (statements_at list) (drop_more places s.place-index 0 c.loop-place-test.true) ∙ first_at list at (drop (s.place-index + 1) places) c.index-list-place.result (slice_get_read list (length list) at c.index-list-place.result refl within c.index-list-place.is)) in
    ap (λ w. puts w (semicolons true (map statement_print rest))) (c.in_ok-statement.ensures ∙ ap (λ w. puts w (statement_print c.index-list-place.result)) c.in_ok-token_if.ensures) ∙
    sym (semicolons_more s.out s.goes_on (statement_print c.index-list-place.result) (map statement_print rest)) ∙ ap (λ ls. puts s.out (semicolons s.goes_on (map statement_print ls))) (sym item) ∙ s.invariant

pub returns : goal.returns
returns c =
    let s = c.loop-place in
    let list = c.args.list.now in
    let none : drop s.place-index c.args.places.now ≡ [] = drop_all s.place-index c.args.places.now c.loop-place-test.false in
    ap (puts s.out) (sym (no_semicolons s.goes_on)) ∙ ap (λ ls. puts s.out (semicolons s.goes_on (map statement_print (statements_at list ls)))) (sym none) ∙ s.invariant ∙ ap (puts c.args.out.now) (sym (print_is (statements_at list c.args.places.now)))
