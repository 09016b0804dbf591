use Rattle.std.proofs.Common.{◌≡◌, ◌+◌, ◌*◌, length, min, All}
use Rattle.par_rows.specs.Pieces.{Covers, AreEven, IsPieceOf}
use Rattle.par_rows.proofs.piece.cut.Given as goal

abbrev pub invariant-loop-at : goal.invariant-loop-at
invariant-loop-at l =
    (length l.pieces.items ≡ l.at)
    × (l.first ≡ l.at * l.least + min l.at l.longer)
    × Covers 0 0 l.first l.pieces.items
    × AreEven l.least l.pieces.items
    × All (IsPieceOf l.count l.rows) l.pieces.items
