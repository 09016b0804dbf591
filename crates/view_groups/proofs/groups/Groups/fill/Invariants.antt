use Rattle.std.specs.Prelude.{◌≡◌, ◌++◌, List, take, drop}
use Rattle.flow_model.specs.Views.{Share, shares_of}
use Rattle.view_groups.specs.AllGroups.{KeepsShares, first_fault}
use Rattle.view_groups.proofs.groups.Groups.fill.Given as goal

abbrev pub invariant-loop-row : goal.invariant-loop-row
invariant-loop-row l = record {
  stop : first_fault l.query (drop l.row-index l.rows) ≡ first_fault l.query l.rows;
  groups : (shares : List Share) → KeepsShares l.query l.initial.self shares → KeepsShares l.query l.self (shares ++ shares_of l.query (take l.row-index l.rows));
}
