use Rattle.std.proofs.Common.{◌↔◌, drop}
use Rattle.state_model.specs.Follows.{AllFitStored}
use Rattle.state_model.specs.Saved.{read_back, side_by_side}
use Rattle.payload_parts.proofs.base.is_store.Given as goal

-- the datasets that are left have the answer
abbrev pub invariant-loop-definition : goal.invariant-loop-definition
invariant-loop-definition l = AllFitStored (read_back l.store) (side_by_side (drop l.definition-index l.store.list) l.states) ↔ AllFitStored (read_back l.store) (read_back l.store)
