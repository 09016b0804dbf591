use Rattle.state_model.specs.Dataset.{is_defined}
use Rattle.store_tables.proofs.FirstLemmas.{Seeks}
use Rattle.store_tables.proofs.find.place_of.Given as goal

abbrev pub invariant-loop-i : goal.invariant-loop-i
invariant-loop-i l = Seeks (is_defined l.name) l.list l.i
