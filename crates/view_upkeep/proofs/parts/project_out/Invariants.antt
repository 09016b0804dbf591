use Rattle.std.specs.Prelude.{◌≡◌, ◌+◌, map, take}
use Rattle.flow_model.specs.Views.{shares_of}
use Rattle.view_upkeep.proofs.parts.project_out.Given as goal

abbrev pub invariant-loop-row : goal.invariant-loop-row
invariant-loop-row g l = record {
  looks : l.steps ≡ l.initial.steps + l.row-index;
  rows : l.out ≡ map (λ s. s.values) (shares_of l.query (take l.row-index l.rows));
}
