use Rattle.std.proofs.Common.{string_bytes}
use Rattle.command_words.proofs.PartLemmas.{IsUncut}
use Rattle.command_words.proofs.parts.count_before_then.Given as goal

abbrev pub invariant-loop-i : goal.invariant-loop-i
invariant-loop-i l = IsUncut string_bytes l.words l.i
