use Rattle.std.proofs.Common.{◌↔◌, drop}
use Rattle.state_model.specs.Follows.{CursorsFit}
use Rattle.state_model.specs.Saved.{read_back}
use Rattle.payload_parts.proofs.base.cursors_fit.Given as goal

-- the flows that are left have the answer
abbrev pub invariant-loop-flow : goal.invariant-loop-flow
invariant-loop-flow l = CursorsFit (read_back l.store) (drop l.flow-index l.flows) l.rest ↔ CursorsFit (read_back l.store) l.flows l.cursors
