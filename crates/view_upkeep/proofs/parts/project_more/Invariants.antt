use Rattle.std.specs.Prelude.{◌≡◌, ◌+◌, ◌++◌, map, take, drop}
use Rattle.flow_model.specs.Views.{shares_of}
use Rattle.view_groups.specs.AllGroups.{first_fault}
use Rattle.view_upkeep.proofs.parts.project_more.Given as goal

abbrev pub invariant-loop-row : goal.invariant-loop-row
invariant-loop-row g l = record {
  looks : l.steps ≡ l.initial.steps + l.row-index;
  stop : first_fault l.query (drop l.row-index l.rows) ≡ first_fault l.query l.rows;
  rows : l.out ≡ l.initial.out ++ map (λ s. s.values) (shares_of l.query (take l.row-index l.rows));
}
