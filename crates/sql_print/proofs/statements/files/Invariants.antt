use Rattle.std.proofs.Common.{◌≡◌, true, false, map, drop, [], ◌∷◌}
use Rattle.sql_tree.specs.Print.{option_print, string}
use Rattle.sql_print.specs.Writing.{puts}
use Rattle.sql_print.proofs.PutLemmas.{commas}
use Rattle.sql_print.proofs.statements.files.Given as goal

abbrev pub invariant-loop-one : goal.invariant-loop-one
invariant-loop-one l = puts l.out (commas true (map option_print (drop l.one-index l.options))) ≡ puts l.fn.out (commas false ((string l.path ∷ []) ∷ map option_print l.options))
