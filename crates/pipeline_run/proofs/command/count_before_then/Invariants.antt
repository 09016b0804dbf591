use Rattle.std.proofs.Common.{string_bytes}
use Rattle.pipeline_run.proofs.WordLemmas.{IsUncut}
use Rattle.pipeline_run.proofs.command.count_before_then.Given as goal

abbrev pub invariant-loop-i : goal.invariant-loop-i
invariant-loop-i l = IsUncut string_bytes l.words l.i
