use Rattle.type_check.specs.Form as form
use Rattle.type_check.specs.Rules as spec
use Rattle.type_check.proofs.Plans.{is_one_sound}
use Rattle.type_check.proofs.checking.check.Goals as goal

pub returns-in-Ok-clause-sound : goal.returns-in-Ok-clause-sound
returns-in-Ok-clause-sound c = is_one_sound (spec.text_of c.args.statements.now) (form.form_of c.statement-item.result) c.in-Ok.plan c.in-Ok.ensures.plan
