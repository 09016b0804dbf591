use Rattle.std.proofs.Common.{◌≡◌, sym, ◌∙◌}
use Rattle.std.specs.Prelude.{[]}
use Rattle.flow_model.specs.Views.{shares_of}
use Rattle.view_groups.proofs.WalkLemmas.{rows_answered}
use Rattle.view_groups.proofs.groups.group_rows.Goals as goal

pub returns-in-Ok-None : goal.returns-in-Ok-None
returns-in-Ok-None c = rows_answered c.args.query.now c.args.rows.now c.rows.result (sym c.in-Ok-None.ensures.stop ∙ c.in-Ok-None.field-0-is)
    (c.rows.ensures c.args.query.now (shares_of c.args.query.now c.args.rows.now) (c.in-Ok-None.ensures.groups c.in-Ok-None.field-0-is [] c.in-Ok.ensures))
