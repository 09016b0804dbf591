use Rattle.std.proofs.Common.{◌≡◌, ℕ, List, None, Vec, Global, ap, ◌∙◌, sym}
use Rattle.std.specs.Prelude.{bytes_eq, is_some}
use Rattle.indexmap.proofs.CallerLemmas.{insert_entry-new}
use Rattle.tree_equality.specs.TreeCodes.{under_code}
use Rattle.tree_equality.proofs.Placing.{none_there, under_more}
use Rattle.tree_equality.proofs.table.put_first.Goals as goal

pub returns : goal.returns
returns c = λ sought.
    let spelled = λ (key : Vec ℕ Global). key.items in
    let entries = c.args.places.now.entries in
    let absent : under_code spelled c.args.code.items entries ≡ None =
    ap (λ (code : List ℕ). under_code spelled code entries) (sym c.as_slice.ensures.value)
    ∙ none_there (under_code spelled c.as_slice.result.now entries) c.is_some.result (c.is_some.ensures ∙ ap is_some c.place_under.ensures) c.if-is_some.false in
    ap (λ (list : List (Vec ℕ Global × ℕ)). under_code spelled sought list)
    (c.in_ok-insert.ensures.entries ∙ insert_entry-new (λ a b. bytes_eq a.items b.items) c.args.places.now c.args.code c.args.place absent)
    ∙ under_more spelled sought entries c.args.code c.args.place
