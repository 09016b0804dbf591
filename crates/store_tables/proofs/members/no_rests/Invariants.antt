use Rattle.std.proofs.Common.{take}
use Rattle.store_tables.specs.Members.{AreNone}
use Rattle.store_tables.proofs.members.no_rests.Given as goal

-- there are as many places as parts so far
abbrev pub invariant-loop-part : goal.invariant-loop-part
invariant-loop-part l = AreNone l.rests.items (take l._part-index l.parts)
