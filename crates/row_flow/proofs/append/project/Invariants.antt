use Rattle.std.proofs.Common.{◌≡◌, drop}
use Rattle.flow_model.specs.Append.{projected}
use Rattle.row_flow.specs.Results.{joined}
use Rattle.row_flow.proofs.append.project.Given as goal

abbrev pub invariant-loop-output : goal.invariant-loop-output
invariant-loop-output l = joined l.values (projected (drop l.output-index l.outputs) l.row) ≡ projected l.outputs l.row
