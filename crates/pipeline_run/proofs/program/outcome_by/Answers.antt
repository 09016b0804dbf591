use Rattle.std.proofs.Common.{List, Ok, subst}
use Rattle.plan_core.specs.declared.plan.Dataset.{Dataset}
use Rattle.type_check.specs.Rules.{Checked}
use Rattle.pipeline_run.specs.Run.{Around}
use Rattle.pipeline_run.proofs.RunLemmas.{outcome_of_validate}
use Rattle.pipeline_run.proofs.program.outcome_by.Goals as goal

pub returns-in-Validate-clause-comes : goal.returns-in-Validate-clause-comes
returns-in-Validate-clause-comes g c disk landing text has =
    let around : Around = record { text = text; room = g.D.Disk.room c.args.disk.now; landing = g.L.Landing.present c.args.landing.now } in
    outcome_of_validate g.D.Disk.tells_moments c.args.command around c.in-Ok.plan (g.D.Disk.state c.args.disk.now) c.in-Validate.is
    (record { statements = c.args.statements.now; has = has; checked = c.in-Ok.ensures.plan })

pub returns-in-Update-clause-comes : goal.returns-in-Update-clause-comes
returns-in-Update-clause-comes g c disk landing text has =
    rw c.in-Update.is (c.updated.ensures.comes disk landing text (record { statements = c.args.statements.now; has = has; checked = c.in-Ok.ensures.plan }))

pub returns-in-Update-clause-stands : goal.returns-in-Update-clause-stands
returns-in-Update-clause-stands g c disk landing asked asks =
    c.updated.ensures.stands disk landing asked (λ table is. asks table (subst (λ (plan : List Dataset). Checked c.args.statements.now (Ok plan)) is c.in-Ok.ensures.plan))
