use Rattle.std.proofs.Common.{◌↔◌, drop}
use Rattle.std.specs.List.{AllByRecursion}
use Rattle.commit_payloads.specs.Forms.{IsKept}
use Rattle.payload_parts.proofs.spelling.all_kept.Given as goal

abbrev pub invariant-loop-state : goal.invariant-loop-state
invariant-loop-state l = AllByRecursion IsKept (drop l.state-index l.states) ↔ AllByRecursion IsKept l.states
