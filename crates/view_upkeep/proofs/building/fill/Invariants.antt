use Rattle.std.specs.Prelude.{take}
use Rattle.flow_model.specs.Views.{shares_of}
use Rattle.view_groups.specs.AllGroups.{KeepsShares}
use Rattle.view_upkeep.proofs.building.fill.Given as goal

abbrev pub invariant-loop-row : goal.invariant-loop-row
invariant-loop-row l = KeepsShares l.query l.groups (shares_of l.query (take l.row-index l.rows))
