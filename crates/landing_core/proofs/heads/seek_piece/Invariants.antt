use Rattle.std.proofs.Common.{◌≡◌, ◌+◌, take, length, None}
use Rattle.landing_core.specs.Pieces.{FindsOn}
use Rattle.landing_core.proofs.heads.seek_piece.Given as goal

abbrev pub invariant-loop-byte : goal.invariant-loop-byte
invariant-loop-byte l =
    record {
      head : FindsOn (take l.byte-index l.piece) l.initial.begun l.begun None;
      place : l.begun.start + length l.begun.bytes.items ≡ l.initial.begun.start + length l.initial.begun.bytes.items + l.byte-index;
    }
