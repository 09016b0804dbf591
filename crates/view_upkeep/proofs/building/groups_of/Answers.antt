use Rattle.std.proofs.Common.{sym, ◌∙◌}
use Rattle.value_core.specs.Bags.{in_row_order}
use Rattle.flow_model.specs.Views.{shares_of}
use Rattle.view_upkeep.proofs.StandLemmas.{kept_groups}
use Rattle.view_upkeep.proofs.building.groups_of.Goals as goal

pub returns : goal.returns
returns c = kept_groups c.args.query.now c.in_ok-groups.groups (shares_of c.args.query.now (in_row_order c.args.rows.now)) (sym c.is_grouped.ensures ∙ c.if-not-is_grouped.false) c.in_ok-groups.ensures
