use Rattle.std.proofs.Common.{◌≡◌, drop}
use Rattle.state_model.specs.Dataset.{cursor_in}
use Rattle.store_tables.proofs.find.cursor_named.Given as goal

abbrev pub invariant-loop-flow : goal.invariant-loop-flow
invariant-loop-flow l = cursor_in (drop l.flow-index l.flows) l.rest l.name ≡ cursor_in l.flows l.cursors l.name
