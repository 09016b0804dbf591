use Rattle.std.proofs.Common.{◌≡◌, ◌+◌, ◌≤◌, take, length}
use Rattle.landing_core.specs.Pieces.{ReadsOn, EndsOn}
use Rattle.landing_core.proofs.lines.push_piece.Given as goal

abbrev pub invariant-loop-byte : goal.invariant-loop-byte
invariant-loop-byte l =
    let read = take l.byte-index l.piece in
    record {
      lines : ReadsOn l.reading.format l.reading.head l.reading.number read l.initial.begun l.initial.lines l.begun l.lines;
      ends : EndsOn read l.initial.begun l.begun;
      place : l.begun.start + length l.begun.bytes.items ≡ l.initial.begun.start + length l.initial.begun.bytes.items + l.byte-index;
      later : l.initial.begun.start ≤ l.begun.start;
    }
