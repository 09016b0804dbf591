use Rattle.std.proofs.Common.{◌≡◌, [], take, drop}
use Rattle.statement_checks.specs.Duplicates.{same_item}
use Rattle.statement_checks.specs.Repeats.{repeat_behind}
use Rattle.statement_checks.proofs.duplicates.item_repeat.Given as goal

-- the first among the items that are left is the first of all
abbrev pub invariant-loop-at : goal.invariant-loop-at
invariant-loop-at l = repeat_behind same_item (take l.at l.items) (drop l.at l.items) ≡ repeat_behind same_item [] l.items
