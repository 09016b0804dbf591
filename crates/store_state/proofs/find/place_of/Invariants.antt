use Rattle.store_state.specs.Dataset.{is_defined}
use Rattle.store_state.proofs.FirstLemmas.{Seeks}
use Rattle.store_state.proofs.find.place_of.Given as goal

abbrev pub invariant-loop-i : goal.invariant-loop-i
invariant-loop-i l = Seeks (is_defined l.name) l.list l.i
