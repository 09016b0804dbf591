use Rattle.std.proofs.Common.{take}
use Rattle.origin_checks.specs.Resolving.{AreResolved}
use Rattle.origin_checks.proofs.resolved.all_resolved.Given as goal

-- what each statement so far reads
abbrev pub invariant-loop-statement : goal.invariant-loop-statement
invariant-loop-statement l = AreResolved (take l.statement-index l.statements) l.resolved
