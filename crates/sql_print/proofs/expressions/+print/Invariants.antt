use Rattle.std.proofs.Common.{◌≡◌, false, map, drop}
use Rattle.sql_tree.specs.Print.{expr_print, arm_print, all_of}
use Rattle.sql_print.specs.Writing.{puts}
use Rattle.sql_print.proofs.PutLemmas.{commas}
use Rattle.sql_print.proofs.expressions.+print.Given as goal

-- the expressions that are left complete the list
abbrev pub invariant-exprs-loop-tree : goal.invariant-exprs-loop-tree
invariant-exprs-loop-tree l = puts l.out (commas l.goes_on (map expr_print (drop l.tree-index l.list))) ≡ puts l.initial.out (commas false (map expr_print l.list))

-- and so do the arms
abbrev pub invariant-case_arms-loop-arm : goal.invariant-case_arms-loop-arm
invariant-case_arms-loop-arm l = puts l.out (all_of (map arm_print (drop l.arm-index l.arms))) ≡ puts l.initial.out (all_of (map arm_print l.arms))
