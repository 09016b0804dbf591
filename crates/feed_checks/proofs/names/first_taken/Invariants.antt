use Rattle.std.proofs.Common.{◌≡◌, take, drop}
use Rattle.feed_checks.specs.Feeds.{taken_behind, first_taken}
use Rattle.feed_checks.proofs.names.first_taken.Given as goal

-- the first among the outputs that are left is the first of all
abbrev pub invariant-loop-at : goal.invariant-loop-at
invariant-loop-at l = taken_behind l.history (take l.at l.given) (drop l.at l.given) ≡ first_taken l.history l.given
