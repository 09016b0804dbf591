use Rattle.state_model.specs.Dataset.{is_flow}
use Rattle.store_tables.proofs.FirstLemmas.{Seeks}
use Rattle.store_tables.proofs.find.flow_place.Given as goal

abbrev pub invariant-loop-i : goal.invariant-loop-i
invariant-loop-i l = Seeks (is_flow l.name) l.flows l.i
