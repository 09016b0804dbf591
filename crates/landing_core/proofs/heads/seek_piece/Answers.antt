use Rattle.std.proofs.Common.{arith}
use Rattle.landing_core.proofs.PieceLemmas.{found_at}
use Rattle.landing_core.proofs.heads.seek_piece.Goals as goal

pub returns-in-Some-clause-head : goal.returns-in-Some-clause-head
returns-in-Some-clause-head c =
    found_at c.args.piece.now c.loop-byte.byte-index c.args.begun.now c.loop-byte.begun c.seek_byte.new.begun c.in-Some.head (omega arith) c.loop-byte.invariant.head (rw c.in-Some.is at c.in_ok-head.ensures.head)
