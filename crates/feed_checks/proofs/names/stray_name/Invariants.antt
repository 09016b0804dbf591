use Rattle.std.proofs.Common.{◌≡◌, drop}
use Rattle.feed_checks.specs.Feeds.{stray_name}
use Rattle.feed_checks.proofs.names.stray_name.Given as goal

-- the first among the names that are left is the first of all
abbrev pub invariant-loop-name : goal.invariant-loop-name
invariant-loop-name l = stray_name l.columns (drop l.name-index l.names) ≡ stray_name l.columns l.names
