use Rattle.std.proofs.Common.{◌≡◌, false, map, drop}
use Rattle.sql_tree.specs.Print.{out_print}
use Rattle.sql_print.specs.Writing.{puts}
use Rattle.sql_print.proofs.PutLemmas.{commas}
use Rattle.sql_print.proofs.statements.outputs.Given as goal

abbrev pub invariant-loop-one : goal.invariant-loop-one
invariant-loop-one l = puts l.out (commas l.goes_on (map out_print (drop l.one-index l.list))) ≡ puts l.initial.out (commas false (map out_print l.list))
