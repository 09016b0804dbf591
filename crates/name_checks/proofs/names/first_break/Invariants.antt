use Rattle.std.proofs.Common.{◌≡◌, ◌+◌, drop}
use Rattle.name_checks.specs.Names.{break_from}
use Rattle.name_checks.proofs.names.first_break.Given as goal

-- statements are numbered from 1, and the first break in those that are left is the first of all
abbrev pub invariant-loop-statement : goal.invariant-loop-statement
invariant-loop-statement l = record {
  numbered : l.number ≡ l.statement-index + 1;
  left : break_from l.list l.number (drop l.statement-index l.list) ≡ break_from l.list 1 l.list;
}
