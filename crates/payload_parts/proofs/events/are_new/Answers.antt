use Rattle.std.proofs.Common.{not, sym, ap, ◌∙◌}
use Rattle.payload_parts.proofs.MomentLemmas.{new_beside, not_new}
use Rattle.payload_parts.proofs.events.are_new.Goals as goal

pub returns-in_ok-met-in-Some : goal.returns-in_ok-met-in-Some
returns-in_ok-met-in-Some c =
    ap not c.in_ok-met-in-Some.ensures
    ∙ new_beside c.in-Some.moments c.args.kept.now c.args.events.now (rw c.in-Some.is at c.in_ok-moments.ensures.moments) (rw c.in-Some.is at c.in_ok-moments.ensures.differ)

pub returns-in-None : goal.returns-in-None
returns-in-None c = sym (not_new c.args.kept.now c.args.events.now (rw c.in-None.is at c.in_ok-moments.ensures.differ))
