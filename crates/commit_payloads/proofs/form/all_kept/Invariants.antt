use Rattle.std.proofs.Common.{◌↔◌, drop}
use Rattle.std.specs.List.{AllByRecursion}
use Rattle.commit_payloads.specs.Forms.{IsKept}
use Rattle.commit_payloads.proofs.form.all_kept.Given as goal

abbrev pub invariant-loop-state : goal.invariant-loop-state
invariant-loop-state l = AllByRecursion IsKept (drop l.state-index l.states) ↔ AllByRecursion IsKept l.states
