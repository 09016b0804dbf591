use Rattle.std.proofs.Common.{◌≡◌, ◌+◌, ◌*◌, sym, subst, List, length, get_or, take, drop, min, All, IfOk, arith}
use Rattle.par_rows.specs.declared.piece.Piece.{Piece}
use Rattle.par_rows.specs.Rows.{Answered, GivesRow}
use Rattle.par_rows.specs.Pieces.{Covers, IsPieceOf}
use Rattle.par_rows.proofs.RowLemmas.{answered_each}
use Rattle.par_rows.proofs.PieceLemmas.{all_of_part, chunk_gives, pieces_give}
use Rattle.par_rows.proofs.map.map_rows.Goals as goal

-- src/map.rt:84:17
pub map_chunks-requires-clause-accepts : goal.map_chunks-requires-clause-accepts
map_chunks-requires-clause-accepts g c κs within start p chunk =
    let P : Piece → Type 0 = IsPieceOf (min c.args.workers (length c.args.rows.now)) (length c.args.rows.now) in
    let placed = subst (λ (pieces : List Piece). All P pieces) (sym c.as_slice.ensures.value) c.in_ok-pieces.ensures.placed in
    (c.requires.takes, all_of_part P start c.as_slice.result.now p.now placed chunk.in_bounds chunk.elements)

-- src/map.rt:68:1
pub returns : goal.returns
returns g c =
    let P = GivesRow g.F.Fn c.args.f.now in
    let covers : Covers 0 0 (length c.args.rows.now) c.as_slice.result.now = subst (λ (pieces : List Piece). Covers 0 0 (length c.args.rows.now) pieces) (sym c.as_slice.ensures.value) c.in_ok-pieces.ensures.in_order in
    let each = answered_each (λ k (piece : Piece) (part : _). IfOk part (λ v. Answered P piece.first (take piece.rows (drop piece.first c.args.rows.now)) v.items)) 0 c.as_slice.result.now c.in_ok-parts.parts.items (omega (arith, c.in_ok-parts.ensures.len, c.in_ok-parts.parts.ok.0))
    (λ k piece part below.
    let given = (c.in_ok-parts.ensures.each k part (omega (arith, c.in_ok-parts.ensures.len, c.in_ok-parts.parts.ok.0))).1 in
    let place : k * 1 + 0 ≡ k = omega arith in
    chunk_gives P (λ v. v.items) c.args.rows.now c.as_slice.result.now given.argument.now k piece (get_or c.in_ok-parts.parts.items k part) given.argument_is.nonempty
    (subst (λ n. get_or given.argument.now 0 piece ≡ get_or c.as_slice.result.now n piece) place (given.argument_is.elements 0 piece given.argument_is.nonempty))
    given.call) in
    let whole = pieces_give P (λ v. v.items) c.args.rows.now 0 0 c.as_slice.result.now c.in_ok-parts.parts.items covers each c.in_ok-all.ensures.0 in
    rw c.in_ok-all.ensures.1 whole
