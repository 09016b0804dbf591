use Rattle.std.proofs.Common.{◌∙◌, ap}
use Rattle.type_check.specs.Form as form
use Rattle.type_check.specs.Rules as spec
use Rattle.type_check.proofs.Tells.{over_given, over_told}
use Rattle.type_check.proofs.table.table_over.Goals as goal

pub returns-in_ok-dataset_over-in-Ok : goal.returns-in_ok-dataset_over-in-Ok
returns-in_ok-dataset_over-in-Ok c = λ path options.
    over_given (spec.text_of c.args.statements.now) (form.parts c.args.name.now c.args.declared.now c.args.select.now c.args.stream path options) c.args.files
    c.as_slice-source.result.now c.in-Ok.outputs c.in_ok-dataset_over-in-Ok.field-0 c.as_slice-source.ensures c.in-Ok.ensures
    (c.in_ok-dataset_over-in-Ok.ensures ∙ ap (spec.dataset_over c.args.name.now (spec.text_of c.args.statements.now) c.args.files) c.as_slice.ensures)

pub returns-in-Err : goal.returns-in-Err
returns-in-Err c = λ path options.
    over_told (spec.text_of c.args.statements.now) (form.parts c.args.name.now c.args.declared.now c.args.select.now c.args.stream path options) c.args.files
    c.as_slice-source.result.now c.in-Err.end c.as_slice-source.ensures c.in-Err.ensures
