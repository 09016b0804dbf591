use Rattle.std.proofs.Common.{◌≡◌, ◌++◌, take}
use Rattle.feed_checks.specs.Clauses.{renamed}
use Rattle.feed_checks.proofs.places.add_renamed.Given as goal

-- those of the columns so far are added
abbrev pub invariant-loop-column : goal.invariant-loop-column
invariant-loop-column l = l.found ≡ l.initial.found ++ renamed l.name (take l.column-index l.columns)
