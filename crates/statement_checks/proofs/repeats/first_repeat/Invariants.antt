use Rattle.std.proofs.Common.{◌≡◌, map, take, drop}
use Rattle.value_core.specs.NameFold.{same_name}
use Rattle.statement_checks.specs.Repeats.{repeat_behind, first_repeat}
use Rattle.statement_checks.proofs.Seen.{text}
use Rattle.statement_checks.proofs.repeats.first_repeat.Given as goal

-- the names so far were seen, and the first repeat in those that are left is the first of all
abbrev pub invariant-loop-name : goal.invariant-loop-name
invariant-loop-name l = record {
  seen : map text l.seen.keys ≡ take l.name-index l.names;
  left : repeat_behind same_name (take l.name-index l.names) (drop l.name-index l.names) ≡ first_repeat l.names;
}
