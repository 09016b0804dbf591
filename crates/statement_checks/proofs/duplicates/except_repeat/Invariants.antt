use Rattle.std.proofs.Common.{◌≡◌, drop, map}
use Rattle.statement_checks.specs.Declares.{except_names}
use Rattle.statement_checks.specs.Repeats.{first_of, first_repeat}
use Rattle.statement_checks.proofs.duplicates.except_repeat.Given as goal

-- the first among the outputs that are left is the first of all
abbrev pub invariant-loop-output : goal.invariant-loop-output
invariant-loop-output l = first_of (map first_repeat (map except_names (drop l.output-index l.outs))) ≡ first_of (map first_repeat (map except_names l.outs))
