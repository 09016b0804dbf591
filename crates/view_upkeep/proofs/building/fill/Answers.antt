use Rattle.std.proofs.Common.{subst, sym, take}
use Rattle.flow_model.specs.Views.{shares_of}
use Rattle.view_groups.specs.AllGroups.{KeepsShares}
use Rattle.view_groups.proofs.AllGroupLemmas.{shares_push}
use Rattle.view_upkeep.proofs.building.fill.Goals as goal

pub loop-row-preserved : goal.loop-row-preserved
loop-row-preserved c = subst (KeepsShares c.args.query.now c.take_in.new.self) (sym (shares_push c.args.query.now c.args.rows.now c.loop-row.row-index c.row-item.result c.loop-row-test.true c.row-item.is))
    (c.in_ok-take_in.ensures.groups (shares_of c.args.query.now (take c.loop-row.row-index c.args.rows.now)) c.loop-row.invariant)
