use Rattle.std.proofs.Common.{◌≡◌, ap, inr, ◌∙◌}
use Rattle.table_update.specs.declared.end.UpdateEnd.TheVariants.{Shrunk}
use Rattle.table_update.specs.Table.{is_sound_plan}
use Rattle.pipeline_run.specs.Run.{Around}
use Rattle.pipeline_run.specs.Table.{name_of}
use Rattle.pipeline_run.proofs.TableLemmas.{plan_is, table_keeps}
use Rattle.pipeline_run.proofs.UpdateLemmas.{outcome_of_update}
use Rattle.pipeline_run.proofs.program.updated.Goals as goal

pub update-end-requires-clause-sound : goal.update-end-requires-clause-sound
update-end-requires-clause-sound g c =
    ap is_sound_plan c.as_ref.ensures.value ∙ table_keeps c.args.plan.now c.in_ok-table.table c.requires.updatable c.in_ok-table.ensures

pub returns-clause-comes : goal.returns-clause-comes
returns-clause-comes g c disk landing text has =
    let around : Around = record { text = text; room = g.D.Disk.room c.args.disk.now; landing = g.L.Landing.present c.args.landing.now } in
    let of_table = plan_is c.args.plan.now c.in_ok-table.table c.requires.updatable c.in_ok-table.ensures in
    rw c.in_ok-name.ensures (outcome_of_update g.D.Disk.tells_moments c.in_ok-table.table around c.args.plan.now c.update-end.result (g.D.Disk.state c.args.disk.now) (g.D.Disk.state c.update-end.new.disk) has of_table
    (rw c.as_ref.ensures.value at (c.update-end.ensures.updated disk landing)))

pub returns-clause-stands : goal.returns-clause-stands
returns-clause-stands g c disk landing asked asks holds stands =
    let of_table = plan_is c.args.plan.now c.in_ok-table.table c.requires.updatable c.in_ok-table.ensures in
    (rw c.as_ref.ensures.value at (c.update-end.ensures.stands disk landing holds asked)) (asks c.in_ok-table.table of_table) stands

pub returns-clause-shrunk_of : goal.returns-clause-shrunk_of
returns-clause-shrunk_of g c table file cursor size is =
    let ended : c.update-end.result ≡ Shrunk file cursor size = cc in
    let named : table ≡ c.in_ok-name.name = cc in
    let given = rw c.as_ref.ensures.value at (c.update-end.ensures.shrunk_of file cursor size ended) in
    (given.0.name, named ∙ c.in_ok-name.ensures ∙ ap name_of given.1)

pub returns-clause-store : goal.returns-clause-store
returns-clause-store g c disk = inr (record { refused = c.update-end.ensures.spared disk; log = c.update-end.ensures.goes_on disk })
