use Rattle.store_tables.proofs.PartLemmas.{AreBegun}
use Rattle.store_tables.proofs.put.first_parts.Given as goal

abbrev pub invariant-loop-definition : goal.invariant-loop-definition
invariant-loop-definition l = AreBegun l.list l.parts.items l.definition-index
