use Rattle.std.proofs.Common.{◌≡◌, take}
use Rattle.flow_engine.specs.Engine.{no_marks}
use Rattle.flow_engine.proofs.load.no_marks.Given as goal

abbrev pub invariant-loop-dataset : goal.invariant-loop-dataset
invariant-loop-dataset l = l.marks.items ≡ no_marks (take l._dataset-index l.plan)
