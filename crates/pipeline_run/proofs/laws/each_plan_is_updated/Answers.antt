use Rattle.pipeline_run.proofs.TableLemmas.{checked_updatable}
use Rattle.pipeline_run.proofs.laws.each_plan_is_updated.Goals as goal

pub returns : goal.returns
returns c text plan has =
    let sound = c.checked_plans_are_sound.ensures has.statements plan has.checked in
    let keeps = c.checked_tables_keep_text.ensures has.statements plan has.checked in
    let updatable = checked_updatable has.statements plan has.checked sound keeps in
    (updatable.asked, updatable.is, updatable.sound)
