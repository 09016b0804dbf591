use Rattle.std.proofs.Common.{◌≡◌, List, [], ◌∷◌, ap, ◌∙◌}
use Rattle.value_core.specs.declared.schema.Column.{Column}
use Rattle.statement_checks.specs.Repeats.{first_of}
use Rattle.select_names.specs.SelectNames.{names_are_columns, outputs_are_named, outputs_differ}
use Rattle.select_checks.specs.Views.{items_have_kinds, outputs_are_grouped}
use Rattle.select_checks.proofs.Chain.{here, beyond}
use Rattle.select_checks.proofs.view.view_fault.Goals as goal

pub returns-then-is_some : goal.returns-then-is_some
returns-then-is_some c =
    let select = c.args.select.now in
    let source = c.args.source.now in
    here c.in_ok-fault.fault (names_are_columns source select) (first_of (items_have_kinds source select ∷ outputs_are_grouped select ∷ outputs_are_named select.outs ∷ outputs_differ source select.outs ∷ [])) c.is_some.result
    (c.in_ok-fault.ensures ∙ ap (λ (columns : List Column). names_are_columns columns select) c.as_slice.ensures) c.is_some.ensures c.if-is_some.true

pub returns : goal.returns
returns c =
    let select = c.args.select.now in
    let source = c.args.source.now in
    beyond c.item_fault.result c.in_ok-fault.fault (names_are_columns source select) (first_of (items_have_kinds source select ∷ outputs_are_grouped select ∷ outputs_are_named select.outs ∷ outputs_differ source select.outs ∷ [])) c.is_some.result
    (c.in_ok-fault.ensures ∙ ap (λ (columns : List Column). names_are_columns columns select) c.as_slice.ensures) c.is_some.ensures c.if-is_some.false c.item_fault.ensures
