use Rattle.std.proofs.Common.{◌≡◌, false, map, drop}
use Rattle.sql_tree.specs.Print.{statement_print}
use Rattle.sql_print.specs.Placed.{statements_at}
use Rattle.sql_print.specs.Writing.{puts}
use Rattle.sql_print.proofs.PutLemmas.{semicolons}
use Rattle.sql_print.proofs.statements.placed.Given as goal

abbrev pub invariant-loop-place : goal.invariant-loop-place
invariant-loop-place l = puts l.out (semicolons l.goes_on (map statement_print (statements_at l.list (drop l.place-index l.places)))) ≡ puts l.initial.out (semicolons false (map statement_print (statements_at l.list l.places)))
