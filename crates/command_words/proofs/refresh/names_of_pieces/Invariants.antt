use Rattle.std.proofs.Common.{◌≡◌, ◌++◌, drop, map, false}
use Rattle.std.specs.List.{list_any}
use Rattle.command_words.specs.Refreshes.{is_empty}
use Rattle.command_words.proofs.refresh.names_of_pieces.Given as goal

abbrev pub invariant-loop-piece : goal.invariant-loop-piece
invariant-loop-piece l = (map (λ piece. piece.now) l.pieces ≡ l.names ++ map (λ piece. piece.now) (drop l.piece-index l.pieces)) × (list_any is_empty l.names ≡ false)
