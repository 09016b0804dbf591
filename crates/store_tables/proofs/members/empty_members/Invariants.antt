use Rattle.store_tables.proofs.MemberLemmas.{Halfway}
use Rattle.store_tables.proofs.members.empty_members.Given as goal

-- the datasets so far were gone through
abbrev pub invariant-loop-i : goal.invariant-loop-i
invariant-loop-i l = Halfway l.names l.i l.list l.fn.parts.items l.rests.items l.parts.items
