use Rattle.std.proofs.Common.{◌≡◌, drop}
use Rattle.flow_engine.specs.Flows.{blocked_by}
use Rattle.flow_engine.proofs.offered.blocked.Given as goal

abbrev pub invariant-loop-dataset : goal.invariant-loop-dataset
invariant-loop-dataset l = blocked_by l.from (drop l.dataset-index l.plan) l.marks ≡ blocked_by l.from l.plan l.halted
