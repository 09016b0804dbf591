use Rattle.std.proofs.Common.{◌≡◌, false, map, drop}
use Rattle.sql_tree.specs.Print.{statement_print}
use Rattle.sql_print.specs.Writing.{puts}
use Rattle.sql_print.proofs.PutLemmas.{semicolons}
use Rattle.sql_print.proofs.statements.all.Given as goal

abbrev pub invariant-loop-tree : goal.invariant-loop-tree
invariant-loop-tree l = puts l.out (semicolons l.goes_on (map statement_print (drop l.tree-index l.list))) ≡ puts l.initial.out (semicolons false (map statement_print l.list))
