use Rattle.std.proofs.Common.{◌≡◌, List, [], ◌∷◌, ap, ◌∙◌}
use Rattle.value_core.specs.declared.schema.Column.{Column}
use Rattle.statement_checks.specs.Repeats.{first_of}
use Rattle.select_names.specs.SelectNames.{names_are_columns, outputs_are_named, outputs_differ}
use Rattle.select_checks.specs.Streams.{outputs_have_kinds}
use Rattle.select_checks.proofs.Chain.{here, beyond}
use Rattle.select_checks.proofs.stream.ungrouped_fault.Goals as goal

pub returns-then-is_some : goal.returns-then-is_some
returns-then-is_some c =
    let select = c.args.select.now in
    let source = c.args.source.now in
    here c.in_ok-fault.fault (names_are_columns source select) (first_of (outputs_have_kinds source select ∷ outputs_are_named select.outs ∷ outputs_differ source select.outs ∷ [])) c.is_some.result
    (c.in_ok-fault.ensures ∙ ap (λ (columns : List Column). names_are_columns columns select) c.as_slice.ensures) c.is_some.ensures c.if-is_some.true

pub returns : goal.returns
returns c =
    let select = c.args.select.now in
    let source = c.args.source.now in
    beyond c.output_fault.result c.in_ok-fault.fault (names_are_columns source select) (first_of (outputs_have_kinds source select ∷ outputs_are_named select.outs ∷ outputs_differ source select.outs ∷ [])) c.is_some.result
    (c.in_ok-fault.ensures ∙ ap (λ (columns : List Column). names_are_columns columns select) c.as_slice.ensures) c.is_some.ensures c.if-is_some.false c.output_fault.ensures
