use Rattle.std.proofs.Common.{◌≡◌, None, Ok, Err, arith, rules}
use Rattle.type_check.specs.Form as form
use Rattle.type_check.specs.Rules as spec
use Rattle.type_check.proofs.Tells.{judged_told}
use Rattle.type_check.proofs.table.table_from.Goals as goal

pub returns-in-Ok-table_over : goal.returns-in-Ok-table_over
returns-in-Ok-table_over c =
    let none : None ≡ spec.first_break (spec.declared_checks c.args.declared.now) = first_of (cc, search rules, grind arith) in
    judged_told (spec.text_of c.args.statements.now) (form.parts c.args.name.now c.args.declared.now c.args.select.now c.args.stream c.args.path.now c.args.options.now) c.in-Ok.files
    (Ok c.in-Ok-table_over.dataset) none c.in-Ok.ensures.read (c.in-Ok-table_over.ensures c.args.path.now c.args.options.now)

pub returns-in-Err : goal.returns-in-Err
returns-in-Err c =
    let none : None ≡ spec.first_break (spec.declared_checks c.args.declared.now) = first_of (cc, search rules, grind arith) in
    judged_told (spec.text_of c.args.statements.now) (form.parts c.args.name.now c.args.declared.now c.args.select.now c.args.stream c.args.path.now c.args.options.now) c.in-Ok.files
    (Err c.in-Err.end) none c.in-Ok.ensures.read (c.in-Err.ensures c.args.path.now c.args.options.now)
