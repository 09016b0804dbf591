use Rattle.std.proofs.Common.{◌-◌, ◌≤◌, [], length, drop}
use Rattle.sql_tokens.specs.declared.lexical.Context.TheVariants.{Open}
use Rattle.sql_tokens.specs.Scanning.{Answer, Scans}
use Rattle.sql_tokens.specs.Slices.{IsSliced}
use Rattle.sql_tokens.proofs.scan.scan.Given as goal

abbrev pub invariant-loop-at : goal.invariant-loop-at
invariant-loop-at l = ((r : Answer) → Scans l.context l.at (drop l.at l.text) l.found r → Scans Open 0 l.text [] r) × (l.at ≤ length l.text) × IsSliced l.text 0 l.at l.found

abbrev pub decreases-loop-at : goal.decreases-loop-at
decreases-loop-at l = length l.text - l.at
