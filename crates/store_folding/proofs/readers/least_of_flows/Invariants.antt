use Rattle.std.proofs.Common.{◌≡◌, drop}
use Rattle.state_model.specs.Saved.{least_of, versions_read}
use Rattle.store_folding.proofs.readers.least_of_flows.Given as goal

abbrev pub invariant-loop-flow : goal.invariant-loop-flow
invariant-loop-flow l = least_of l.now (versions_read l.name (drop l.flow-index l.flows) l.rest) ≡ least_of l.least (versions_read l.name l.flows l.cursors)
