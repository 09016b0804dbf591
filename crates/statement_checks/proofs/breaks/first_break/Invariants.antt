use Rattle.statement_checks.proofs.Counting.{IsUnbroken}
use Rattle.statement_checks.proofs.breaks.first_break.Given as goal

abbrev pub invariant-loop-at : goal.invariant-loop-at
invariant-loop-at l = IsUnbroken l.list l.at
