use Rattle.std.proofs.Common.{◌≡◌, map, take}
use Rattle.state_model.specs.After.{first_cursor}
use Rattle.store_tables.proofs.part.first_cursors.Given as goal

abbrev pub invariant-loop-flow : goal.invariant-loop-flow
invariant-loop-flow l = l.cursors.items ≡ map first_cursor (take l.flow-index l.flows)
