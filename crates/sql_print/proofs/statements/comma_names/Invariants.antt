use Rattle.std.proofs.Common.{◌≡◌, false, map, drop}
use Rattle.sql_tree.specs.Print.{one_name}
use Rattle.sql_print.specs.Writing.{puts}
use Rattle.sql_print.proofs.PutLemmas.{commas}
use Rattle.sql_print.proofs.statements.comma_names.Given as goal

abbrev pub invariant-loop-name : goal.invariant-loop-name
invariant-loop-name l = puts l.out (commas l.goes_on (map one_name (drop l.name-index l.list))) ≡ puts l.initial.out (commas false (map one_name l.list))
